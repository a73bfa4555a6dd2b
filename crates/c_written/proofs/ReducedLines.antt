-- A line without some clauses ends as it did, and begins with its two words.
use Rattle.std.proofs.Common.{◌≡◌, ◌∙◌, ℕ, zero, suc, ◌+◌, ◌-◌, ◌≤◌, Bool, true, false, cond, List, [], ◌∷◌, ◌++◌, Option, Some, None, refl, sym, ap, arith}
use Rattle.std.specs.Prelude.{◌&&◌, not, codes}
use Rattle.std.specs.Str.{bytes_eq}
use Rattle.std.proofs.lemmas.Slice.Eq.{bytes_eq-Decides}
use Rattle.c_grammar.specs.Lexeme.{Lexeme, Reserved, Signed, Worded, Numbered, Strange, Ended, Placed}
use Rattle.c_grammar.specs.Blocks.{Items}
use Rattle.c_grammar.specs.Lines.{is_omp}
use Rattle.c_grammar.specs.Presence.{is_word}
use Rattle.c_grammar.specs.Updates.{Reduction, all_mapped, clause_on, mapped_words, reduced, reduction_at, taken, taken_at}
use Rattle.directives.specs.Seen.{all_end_well, ends_well, is_whole}
use Rattle.directives.specs.Spells.{kinds_of}
use Rattle.c_written.proofs.Guarding.{first_true, second_true, whole_behind}
use Rattle.c_written.proofs.PlainClauses.{IsClause, plain, plain_less, taken_clause}

-- behind tokens that do not end the line something stands
filled : (p : Placed) (ps : List Placed) (n : ℕ) → all_end_well (p ∷ ps) ≡ true → plain (suc n) (kinds_of (p ∷ ps)) ≡ true →
    is_whole ps ≡ true
filled p [] n e f =
    let last = first_true (ends_well p.lexeme true) true e in
    let none = first_true (not (ends_well p.lexeme true)) (plain n []) f in
    absurd (no_both (ends_well p.lexeme true) last none)
  where
    no_both : (b : Bool) → b ≡ true → not b ≡ true → ⊥
    no_both true h k = absurd cc
    no_both false h k = absurd cc
filled p (q ∷ ps) n e f = second_true (ends_well p.lexeme false) (all_end_well (q ∷ ps)) e

rest_plain : (p : Placed) (ps : List Placed) (n : ℕ) → plain (suc n) (kinds_of (p ∷ ps)) ≡ true → plain n (kinds_of ps) ≡ true
rest_plain p ps n e = second_true (not (ends_well p.lexeme true)) (plain n (kinds_of ps)) e

-- what follows is whole
abbrev StaysWhole : List Lexeme → Items → List Placed → Type 0
StaysWhole ts is ps = (k : ℕ) → is_whole ps ≡ true → plain k (kinds_of ps) ≡ true → is_whole (reduced ts is k ps) ≡ true

clause_out : (ts : List Lexeme) (is : Items) (p : Placed) (ps : List Placed) (r : Reduction) (b : Bool) →
    all_end_well (p ∷ ps) ≡ true → IsClause (kinds_of (p ∷ ps)) r → StaysWhole ts is ps →
    is_whole (cond b (reduced ts is (r.len - 1) ps) (mapped_words p.column ++ reduced ts is 3 ps)) ≡ true
clause_out ts is p ps r b e c ih = go b
  where
    front : (n : ℕ) → suc n ≤ r.len → plain (suc n) (kinds_of (p ∷ ps)) ≡ true
    front n h = plain_less (suc n) r.len (kinds_of (p ∷ ps)) h c.all

    out : (n : ℕ) → suc n ≤ r.len → is_whole (reduced ts is n ps) ≡ true
    out n h = ih n (filled p ps n e (front n h)) (rest_plain p ps n (front n h))

    go : (b : Bool) → is_whole (cond b (reduced ts is (r.len - 1) ps) (mapped_words p.column ++ reduced ts is 3 ps)) ≡ true
    go true = out (r.len - 1) (omega (arith, c.long))
    go false = whole_behind (mapped_words p.column) (reduced ts is 3 ps) refl (out 3 (omega (arith, c.long)))

clause_whole : (ts : List Lexeme) (is : Items) (p : Placed) (ps : List Placed) (o : Option Reduction) →
    taken_at ts is (kinds_of (p ∷ ps)) ≡ o → all_end_well (p ∷ ps) ≡ true → StaysWhole ts is ps →
    is_whole (clause_on ts p o (λ k. reduced ts is k ps)) ≡ true
clause_whole ts is p [] None f e ih = e
clause_whole ts is p (q ∷ ps) None f e ih =
    whole_behind (p ∷ []) (reduced ts is 0 (q ∷ ps)) (rw (first_true (ends_well p.lexeme false) (all_end_well (q ∷ ps)) e) refl)
    (ih 0 (second_true (ends_well p.lexeme false) (all_end_well (q ∷ ps)) e) refl)
clause_whole ts is p [] (Some r) f e ih =
    clause_out ts is p [] r (all_mapped r.names ts) e (taken_clause ts is (kinds_of (p ∷ [])) r f) ih
clause_whole ts is p (q ∷ ps) (Some r) f e ih =
    clause_out ts is p (q ∷ ps) r (all_mapped r.names ts) e (taken_clause ts is (kinds_of (p ∷ q ∷ ps)) r f) ih

pub reduced_whole : (ts : List Lexeme) (is : Items) (k : ℕ) (ps : List Placed) → is_whole ps ≡ true → plain k (kinds_of ps) ≡ true →
    is_whole (reduced ts is k ps) ≡ true
reduced_whole ts is k [] e f = absurd cc
reduced_whole ts is zero (p ∷ ps) e f =
    clause_whole ts is p ps (taken_at ts is (kinds_of (p ∷ ps))) refl e (λ k. reduced_whole ts is k ps)
reduced_whole ts is (suc k) (p ∷ ps) e f = reduced_whole ts is k ps (filled p ps k e f) (rest_plain p ps k f)
