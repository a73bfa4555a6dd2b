-- The tokens before on a line, one after another.
use Rattle.std.proofs.Common.{◌≡◌, ◌∙◌, ℕ, zero, suc, ◌+◌, ◌-◌, ◌<◌, ◌≤◌, Bool, true, false, not, ◌&&◌, ◌||◌, List, [], ◌∷◌, length, get_or, take, drop, map, Some, None, refl, sym, ap, codes, arith}
use Rattle.std.proofs.lemmas.List.{take_all}
use Rattle.c_tokens.specs.declared.kind.Sign.{Sign}
use Rattle.c_tokens.specs.declared.kind.Sign.TheVariants as sign
use Rattle.c_grammar.specs.Lexeme.{Lexeme, Signed, Worded, Numbered, Reserved, Strange, Ended, Placed, same}
use Rattle.c_grammar.specs.LineForms.{is_sign, is_inside, clause_of, word_at, lacks_colon, needs_work, last_is, ends_clause, begins_bound}
use Rattle.directives.specs.declared.lexeme.Lexeme.{Lexeme as Given}
use Rattle.directives.specs.declared.lexeme.PlacedLexeme.{PlacedLexeme}
use Rattle.directives.specs.Seen.{seen_lexeme, seen_placed}
use Rattle.c_written.specs.Stack.{item_at}
use Rattle.c_written.specs.Forms.{ends_bound, is_more, text_of}
use Rattle.c_written.proofs.Behind.{behind_item, behind_none}

-- ---- between brackets

pub inside_open : (xs : List Given) (k : ℕ) (x : Given) → item_at k xs ≡ Some x →
    is_sign sign.OpenParen (seen_lexeme x) ≡ true → is_inside (drop k (map seen_lexeme xs)) ≡ true
inside_open xs k x e a = ap is_inside (behind_item seen_lexeme xs k x e) ∙ rw a refl

pub inside_close : (xs : List Given) (k : ℕ) (x : Given) → item_at k xs ≡ Some x →
    is_sign sign.OpenParen (seen_lexeme x) ≡ false → is_sign sign.CloseParen (seen_lexeme x) ≡ true →
    is_inside (drop k (map seen_lexeme xs)) ≡ false
inside_close xs k x e a b = ap is_inside (behind_item seen_lexeme xs k x e) ∙ rw (a, b) refl

pub inside_on : (xs : List Given) (k : ℕ) (x : Given) → item_at k xs ≡ Some x →
    is_sign sign.OpenParen (seen_lexeme x) ≡ false → is_sign sign.CloseParen (seen_lexeme x) ≡ false →
    is_inside (drop k (map seen_lexeme xs)) ≡ is_inside (drop (k + 1) (map seen_lexeme xs))
inside_on xs k x e a b = ap is_inside (behind_item seen_lexeme xs k x e) ∙ rw (a, b) refl

pub inside_end : (xs : List Given) (k : ℕ) → item_at k xs ≡ None → is_inside (drop k (map seen_lexeme xs)) ≡ false
inside_end xs k e = ap is_inside (behind_none seen_lexeme xs k e)

-- ---- the word of a clause

pub clause_open : (xs : List Given) (k : ℕ) (x : Given) → item_at k xs ≡ Some x →
    is_sign sign.OpenParen (seen_lexeme x) ≡ true →
    clause_of (drop k (map seen_lexeme xs)) ≡ word_at (drop (k + 1) (map seen_lexeme xs))
clause_open xs k x e a = ap clause_of (behind_item seen_lexeme xs k x e) ∙ rw a refl

pub clause_on : (xs : List Given) (k : ℕ) (x : Given) → item_at k xs ≡ Some x →
    is_sign sign.OpenParen (seen_lexeme x) ≡ false →
    clause_of (drop k (map seen_lexeme xs)) ≡ clause_of (drop (k + 1) (map seen_lexeme xs))
clause_on xs k x e a = ap clause_of (behind_item seen_lexeme xs k x e) ∙ rw a refl

pub clause_end : (xs : List Given) (k : ℕ) → item_at k xs ≡ None → clause_of (drop k (map seen_lexeme xs)) ≡ []
clause_end xs k e = ap clause_of (behind_none seen_lexeme xs k e)

by_text : (t : Lexeme) (ts : List Lexeme) → word_at (t ∷ ts) ≡ text_of t
by_text (Reserved w) ts = refl
by_text (Signed s) ts = refl
by_text (Worded x) ts = refl
by_text (Numbered n) ts = refl
by_text Strange ts = refl
by_text Ended ts = refl

pub word_is : (xs : List Given) (k : ℕ) (x : Given) → item_at k xs ≡ Some x →
    word_at (drop k (map seen_lexeme xs)) ≡ text_of (seen_lexeme x)
word_is xs k x e =
    ap word_at (behind_item seen_lexeme xs k x e) ∙ by_text (seen_lexeme x) (drop (k + 1) (map seen_lexeme xs))

pub word_none : (xs : List Given) (k : ℕ) → item_at k xs ≡ None → word_at (drop k (map seen_lexeme xs)) ≡ []
word_none xs k e = ap word_at (behind_none seen_lexeme xs k e)

-- ---- the first bound of a section

pub lacks_open : (xs : List Given) (k : ℕ) (x : Given) → item_at k xs ≡ Some x →
    is_sign sign.OpenBracket (seen_lexeme x) ≡ true → lacks_colon (drop k (map seen_lexeme xs)) ≡ true
lacks_open xs k x e a = ap lacks_colon (behind_item seen_lexeme xs k x e) ∙ rw a refl

pub lacks_stop : (xs : List Given) (k : ℕ) (x : Given) → item_at k xs ≡ Some x →
    is_sign sign.OpenBracket (seen_lexeme x) ≡ false → ends_bound (seen_lexeme x) ≡ true →
    lacks_colon (drop k (map seen_lexeme xs)) ≡ false
lacks_stop xs k x e a b = ap lacks_colon (behind_item seen_lexeme xs k x e) ∙ rw (a, b) refl

pub lacks_on : (xs : List Given) (k : ℕ) (x : Given) → item_at k xs ≡ Some x →
    is_sign sign.OpenBracket (seen_lexeme x) ≡ false → ends_bound (seen_lexeme x) ≡ false →
    lacks_colon (drop k (map seen_lexeme xs)) ≡ lacks_colon (drop (k + 1) (map seen_lexeme xs))
lacks_on xs k x e a b = ap lacks_colon (behind_item seen_lexeme xs k x e) ∙ rw (a, b) refl

pub lacks_end : (xs : List Given) (k : ℕ) → item_at k xs ≡ None → lacks_colon (drop k (map seen_lexeme xs)) ≡ false
lacks_end xs k e = ap lacks_colon (behind_none seen_lexeme xs k e)

-- ---- what no sum has

by_lexeme : (k : ℕ) (t : Lexeme) (c : ℕ) (ps : List Placed) (b : Bool) → is_more t ≡ b →
    needs_work (suc k) (record { lexeme = t; column = c } ∷ ps) ≡ (b || needs_work k ps)
by_lexeme k (Reserved w) c ps b e = ap (λ x. x || needs_work k ps) e
by_lexeme k (Signed s) c ps b e = ap (λ x. x || needs_work k ps) e
by_lexeme k (Worded x) c ps b e = ap (λ x. x || needs_work k ps) e
by_lexeme k (Numbered n) c ps b e = ap (λ x. x || needs_work k ps) e
by_lexeme k Strange c ps b e = ap (λ x. x || needs_work k ps) e
by_lexeme k Ended c ps b e = ap (λ x. x || needs_work k ps) e

pub work_none : (k : ℕ) (ps : List Placed) → k ≡ 0 → needs_work k ps ≡ false
work_none zero ps e = refl
work_none (suc k) ps e = absurd (omega arith)

pub work_more : (k : ℕ) (p : Placed) (ps : List Placed) → 0 < k → is_more p.lexeme ≡ true → needs_work k (p ∷ ps) ≡ true
work_more zero p ps h e = absurd (omega arith)
work_more (suc k) p ps h e = by_lexeme k p.lexeme p.column ps true e

pub work_on : (k : ℕ) (p : Placed) (ps : List Placed) → 0 < k → is_more p.lexeme ≡ false →
    needs_work k (p ∷ ps) ≡ needs_work (k - 1) ps
work_on zero p ps h e = absurd (omega arith)
work_on (suc k) p ps h e =
    let less : k ≡ suc k - 1 = omega arith in
    by_lexeme k p.lexeme p.column ps false e ∙ ap (λ (n : ℕ). needs_work n ps) less

-- the list of what is behind the first
pub work_behind : (k : ℕ) (ps : List PlacedLexeme) (d : PlacedLexeme) → 1 ≤ length ps → (k ≡ 0 → ⊥) →
    is_more (seen_lexeme (get_or ps 0 d).lexeme) ≡ false →
    needs_work k (map seen_placed ps) ≡ needs_work (k - 1) (map seen_placed (take (length ps - 1) (drop 1 ps)))
work_behind k [] d h n e = absurd (omega arith)
work_behind k (p ∷ ps) d h n e =
    let some : 0 < k = omega arith in
    let all : take (length (p ∷ ps) - 1) ps ≡ ps = take_all (length (p ∷ ps) - 1) ps (omega arith) in
    work_on k (seen_placed p) (map seen_placed ps) some e
    ∙ ap (λ (qs : List PlacedLexeme). needs_work (k - 1) (map seen_placed qs)) (sym all)

pub work_end : (k : ℕ) → needs_work k [] ≡ false
work_end zero = refl
work_end (suc k) = refl

-- ---- the last token

pub ends_close : (xs : List Given) (x : Given) → item_at 0 xs ≡ Some x → is_sign sign.CloseParen (seen_lexeme x) ≡ true →
    ends_clause (map seen_lexeme xs) ≡ true
ends_close xs x e a = ap ends_clause (behind_item seen_lexeme xs 0 x e) ∙ rw a refl

pub ends_word : (n : List ℕ) (xs : List Given) (x : Given) (b : Bool) → n ≡ codes "nowait" → item_at 0 xs ≡ Some x →
    is_sign sign.CloseParen (seen_lexeme x) ≡ false → same (Worded n) (seen_lexeme x) ≡ true →
    b ≡ is_inside (drop 1 (map seen_lexeme xs)) → ends_clause (map seen_lexeme xs) ≡ not b
ends_word n xs x b h e a f g =
    let word = ap (λ (m : List ℕ). same (Worded m) (seen_lexeme x)) (sym h) ∙ f in
    ap ends_clause (behind_item seen_lexeme xs 0 x e) ∙ rw (a, word) (ap not (sym g))

pub ends_not : (n : List ℕ) (xs : List Given) (x : Given) → n ≡ codes "nowait" → item_at 0 xs ≡ Some x →
    is_sign sign.CloseParen (seen_lexeme x) ≡ false → same (Worded n) (seen_lexeme x) ≡ false →
    ends_clause (map seen_lexeme xs) ≡ false
ends_not n xs x h e a f =
    let word = ap (λ (m : List ℕ). same (Worded m) (seen_lexeme x)) (sym h) ∙ f in
    ap ends_clause (behind_item seen_lexeme xs 0 x e) ∙ rw (a, word) refl

pub ends_none : (xs : List Given) → item_at 0 xs ≡ None → ends_clause (map seen_lexeme xs) ≡ false
ends_none xs e = ap ends_clause (behind_none seen_lexeme xs 0 e)

pub bound_at_last : (ts : List Lexeme) →
    begins_bound ts ≡ (last_is sign.OpenBracket ts || (last_is sign.Colon ts && lacks_colon (drop 1 ts)))
bound_at_last [] = refl
bound_at_last (t ∷ ts) = refl

pub last_some : (s : Sign) (xs : List Given) (x : Given) → item_at 0 xs ≡ Some x →
    last_is s (map seen_lexeme xs) ≡ is_sign s (seen_lexeme x)
last_some s xs x e = ap (last_is s) (behind_item seen_lexeme xs 0 x e)

pub last_none : (s : Sign) (xs : List Given) → item_at 0 xs ≡ None → last_is s (map seen_lexeme xs) ≡ false
last_none s xs e = ap (last_is s) (behind_none seen_lexeme xs 0 e)
