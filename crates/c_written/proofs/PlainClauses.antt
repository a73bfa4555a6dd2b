-- The tokens of a reduction clause that is taken: none of them ends the line.
use Rattle.std.proofs.Common.{◌≡◌, ◌∙◌, ℕ, zero, suc, ◌+◌, ◌-◌, ◌≤◌, ◌<◌, Bool, true, false, cond, List, [], ◌∷◌, Option, Some, None, refl, ap, arith}
use Rattle.std.specs.Prelude.{◌&&◌, not, option_and_then, codes}
use Rattle.c_tokens.specs.declared.kind.Sign.{Sign}
use Rattle.c_tokens.specs.declared.kind.Sign.TheVariants as sign
use Rattle.c_grammar.specs.Lexeme.{Lexeme, Reserved, Signed, Worded, Numbered, Strange, Ended}
use Rattle.c_grammar.specs.Blocks.{Items}
use Rattle.c_grammar.specs.Constants.{Names}
use Rattle.c_grammar.specs.LineForms.{is_sign}
use Rattle.c_grammar.specs.Presence.{is_word}
use Rattle.c_grammar.specs.Updates.{Reduction, Slot, AtName, BehindName, AtFirst, AtColon, AtCount, AtEnd, BehindSection, Operation, is_taken, listed, listed_by, listed_on, operation_of, may_end, next_slot, reduction_at, taken, taken_at, with_word}
use Rattle.directives.specs.Seen.{ends_well}
use Rattle.c_written.proofs.Guarding.{first_true, second_true}

-- none of the first tokens ends a line
abbrev pub plain : ℕ → List Lexeme → Bool
plain zero ts = true
plain (suc n) [] = false
plain (suc n) (t ∷ ts) = not (ends_well t true) && plain n ts

pub plain_less : (n m : ℕ) (ts : List Lexeme) → n ≤ m → plain m ts ≡ true → plain n ts ≡ true
plain_less zero m ts h e = refl
plain_less (suc n) zero ts h e = absurd (omega (arith, h))
plain_less (suc n) (suc m) [] h e = absurd cc
plain_less (suc n) (suc m) (t ∷ ts) h e =
    let less : n ≤ m = omega (arith, h) in
    let here = first_true (not (ends_well t true)) (plain m ts) e in
    rw here (plain_less n m ts less (second_true (not (ends_well t true)) (plain m ts) e))

plain_more : (n m : ℕ) (t : Lexeme) (ts : List Lexeme) → m ≡ n + 1 → ends_well t true ≡ false → plain n ts ≡ true →
    plain m (t ∷ ts) ≡ true
plain_more n zero t ts h e f = absurd (omega (arith, h))
plain_more n (suc m) t ts h e f =
    let same : m ≡ n = omega (arith, h) in rw e (ap (λ (k : ℕ). plain k ts) same ∙ f)

-- ---- clauses

word_plain : (x : List ℕ) (t : Lexeme) → is_word x t ≡ true → ends_well t true ≡ false
word_plain x (Worded y) e = refl
word_plain x (Reserved w) e = refl
word_plain x (Signed s) e = refl
word_plain x (Numbered n) e = refl
word_plain x Strange e = absurd cc
word_plain x Ended e = absurd cc

sign_plain : (s : Sign) (t : Lexeme) → is_sign s t ≡ true → ends_well t true ≡ false
sign_plain s (Worded y) e = refl
sign_plain s (Reserved w) e = refl
sign_plain s (Signed r) e = refl
sign_plain s (Numbered n) e = refl
sign_plain s Strange e = absurd cc
sign_plain s Ended e = absurd cc

strange_none : (s : Slot) → next_slot s Strange ≡ None
strange_none AtName = refl
strange_none BehindName = refl
strange_none AtFirst = refl
strange_none AtColon = refl
strange_none AtCount = refl
strange_none AtEnd = refl
strange_none BehindSection = refl

ended_none : (s : Slot) → next_slot s Ended ≡ None
ended_none AtName = refl
ended_none BehindName = refl
ended_none AtFirst = refl
ended_none AtColon = refl
ended_none AtCount = refl
ended_none AtEnd = refl
ended_none BehindSection = refl

slot_plain : (s s' : Slot) (t : Lexeme) → next_slot s t ≡ Some s' → ends_well t true ≡ false
slot_plain s s' (Worded y) e = refl
slot_plain s s' (Reserved w) e = refl
slot_plain s s' (Signed r) e = refl
slot_plain s s' (Numbered n) e = refl
slot_plain s s' Strange e = let none = strange_none s in absurd cc
slot_plain s s' Ended e = let none = ended_none s in absurd cc

-- behind k tokens of a clause stand those of it that are left
record IsPlain (k : ℕ) (ts : List Lexeme) (r : Reduction) : Type 0 where
  more : k + 1 ≤ r.len
  all : plain (r.len - k) ts ≡ true

listed_plain : (op : Operation) (xs : Names) (k : ℕ) (s : Slot) (ts : List Lexeme) (r : Reduction) → listed op xs k s ts ≡ Some r →
    IsPlain k ts r
listed_plain op xs k s [] r e = absurd cc
listed_plain op xs k s (t ∷ ts) r e =
    ends (may_end s && is_sign sign.CloseParen t) refl e (λ xs s. listed_plain op xs (k + 1) s ts r)
  where
    goes : (o : Option Slot) → next_slot s t ≡ o → listed_on o (λ s. listed op (with_word t xs) (k + 1) s ts) ≡ Some r →
        ((ys : Names) (s' : Slot) → listed op ys (k + 1) s' ts ≡ Some r → IsPlain (k + 1) ts r) → IsPlain k (t ∷ ts) r
    goes None f e ih = absurd cc
    goes (Some s') f e ih =
        let behind = ih (with_word t xs) s' e in
        record {
          more = omega (arith, behind.more);
          all = plain_more (r.len - (k + 1)) (r.len - k) t ts (omega (arith, behind.more)) (slot_plain s s' t f) behind.all;
        }

    ends : (b : Bool) → (may_end s && is_sign sign.CloseParen t) ≡ b →
        cond b (Some (record { op = op; names = xs; len = k + 1 }))
        (listed_on (next_slot s t) (λ s. listed op (with_word t xs) (k + 1) s ts)) ≡ Some r →
        ((ys : Names) (s' : Slot) → listed op ys (k + 1) s' ts ≡ Some r → IsPlain (k + 1) ts r) → IsPlain k (t ∷ ts) r
    ends true f e ih =
        let len : r.len ≡ k + 1 = cc in
        record {
          more = omega (arith, len);
          all = plain_more 0 (r.len - k) t ts (omega (arith, len))
              (sign_plain sign.CloseParen t (second_true (may_end s) (is_sign sign.CloseParen t) f)) refl;
        }
    ends false f e ih = goes (next_slot s t) refl e ih

-- a clause that is taken
pub record IsClause (ts : List Lexeme) (r : Reduction) : Type 0 where
  pub long : 4 ≤ r.len
  pub all : plain r.len ts ≡ true

operation_plain : (s : Lexeme) (op : Operation) → operation_of s ≡ Some op → ends_well s true ≡ false
operation_plain (Worded x) op e = refl
operation_plain (Reserved v) op e = refl
operation_plain (Signed s) op e = refl
operation_plain (Numbered n) op e = refl
operation_plain Strange op e = absurd cc
operation_plain Ended op e = absurd cc

listed_behind : (w o c : Lexeme) (s : Lexeme) (ts : List Lexeme) (r : Reduction) → ends_well w true ≡ false →
    ends_well o true ≡ false → ends_well c true ≡ false → listed_by s ts ≡ Some r → IsClause (w ∷ o ∷ s ∷ c ∷ ts) r
listed_behind w o c s ts r e f g h = go (operation_of s) refl h
  where
    go : (q : Option Operation) → operation_of s ≡ q → option_and_then (λ op. listed op [] 4 AtName ts) q ≡ Some r →
        IsClause (w ∷ o ∷ s ∷ c ∷ ts) r
    go None k l = absurd cc
    go (Some op) k l =
        let p = listed_plain op [] 4 AtName ts r l in
        record {
          long = omega (arith, p.more);
          all = plain_more (r.len - 1) r.len w (o ∷ s ∷ c ∷ ts) (omega (arith, p.more)) e
              (plain_more (r.len - 2) (r.len - 1) o (s ∷ c ∷ ts) (omega (arith, p.more)) f
              (plain_more (r.len - 3) (r.len - 2) s (c ∷ ts) (omega (arith, p.more)) (operation_plain s op k)
              (plain_more (r.len - 4) (r.len - 3) c ts (omega (arith, p.more)) g p.all)));
        }

clause_at : (us : List Lexeme) (r : Reduction) → reduction_at us ≡ Some r → IsClause us r
clause_at [] r e = absurd cc
clause_at (w ∷ []) r e = absurd cc
clause_at (w ∷ o ∷ []) r e = absurd cc
clause_at (w ∷ o ∷ s ∷ []) r e = absurd cc
clause_at (w ∷ o ∷ s ∷ c ∷ ts) r e =
    go (is_word (codes "reduction") w && is_sign sign.OpenParen o && is_sign sign.Colon c) refl e
  where
    go : (b : Bool) → (is_word (codes "reduction") w && is_sign sign.OpenParen o && is_sign sign.Colon c) ≡ b →
        cond b (listed_by s ts) None ≡ Some r → IsClause (w ∷ o ∷ s ∷ c ∷ ts) r
    go true f h =
        let front = first_true (is_word (codes "reduction") w && is_sign sign.OpenParen o) (is_sign sign.Colon c) f in
        listed_behind w o c s ts r
        (word_plain (codes "reduction") w (first_true (is_word (codes "reduction") w) (is_sign sign.OpenParen o) front))
        (sign_plain sign.OpenParen o (second_true (is_word (codes "reduction") w) (is_sign sign.OpenParen o) front))
        (sign_plain sign.Colon c
        (second_true (is_word (codes "reduction") w && is_sign sign.OpenParen o) (is_sign sign.Colon c) f)) h
    go false f h = absurd cc

pub taken_clause : (ts : List Lexeme) (is : Items) (us : List Lexeme) (r : Reduction) → taken_at ts is us ≡ Some r → IsClause us r
taken_clause ts is us r e = go (reduction_at us) refl e
  where
    go : (o : Option Reduction) → reduction_at us ≡ o → taken ts is o ≡ Some r → IsClause us r
    go None f h = absurd cc
    go (Some q) f h = by (is_taken ts is q) h
      where
        by : (b : Bool) → cond b (Some q) None ≡ Some r → IsClause us r
        by true k = clause_at us r (f ∙ k)
        by false k = absurd cc
