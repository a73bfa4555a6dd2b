-- The line of a target whose conditions are for it alone.
use Rattle.std.proofs.Common.{◌≡◌, ◌∙◌, ℕ, Bool, true, false, cond, List, [], ◌∷◌, ◌++◌, take, drop, refl, sym, ap}
use Rattle.std.specs.Prelude.{◌&&◌, ◌==◌, codes}
use Rattle.std.proofs.lemmas.List.{drop-map, take-map}
use Rattle.c_tokens.specs.declared.kind.Sign.TheVariants as sign
use Rattle.c_grammar.specs.Lexeme.{Lexeme, Reserved, Signed, Worded, Numbered, Strange, Ended, Placed}
use Rattle.c_grammar.specs.LineForms.{is_sign}
use Rattle.c_grammar.specs.Nesting.{conditioned, has, is_if, joined_line, joined_tokens, lexemes, name_len, next_depth, opens_condition, target_word, targeted}
use Rattle.c_grammar.specs.Presence.{is_target}
use Rattle.directives.specs.declared.lexeme.PlacedLexeme.{PlacedLexeme}
use Rattle.directives.specs.Seen.{all_end_well, ends_well, is_whole, seen_placed}
use Rattle.directives.specs.Spells.{kinds_of}
use Rattle.c_written.specs.Forms.{all_placed}
use Rattle.c_written.specs.Spots.{all_kinds}
use Rattle.c_written.proofs.Fitting.{kinds_front}
use Rattle.c_written.proofs.Guarding.{first_true, second_true, whole_behind, whole_more}

-- ---- it is whole

no_bracket : (t : Lexeme) → ends_well t true ≡ true → is_sign sign.OpenParen t ≡ false
no_bracket (Signed s) e = absurd cc
no_bracket (Reserved w) e = refl
no_bracket (Worded x) e = refl
no_bracket (Numbered n) e = refl
no_bracket Strange e = refl
no_bracket Ended e = refl

one_whole : (p : Placed) → ends_well p.lexeme true ≡ true → is_whole (p ∷ []) ≡ true
one_whole p e = rw e refl

last_whole : (b : Bool) (p : Placed) → ends_well p.lexeme true ≡ true →
    is_whole (p ∷ (cond (b && is_sign sign.OpenParen p.lexeme && true) (target_word p.column) [] ++ [])) ≡ true
last_whole b p e = rw (no_bracket p.lexeme e) (go b)
  where
    go : (b : Bool) → is_whole (p ∷ (cond (b && false && true) (target_word p.column) [] ++ [])) ≡ true
    go true = one_whole p e
    go false = one_whole p e

word_whole : (b : Bool) (column : ℕ) (ps : List Placed) → is_whole ps ≡ true →
    is_whole (cond b (target_word column) [] ++ ps) ≡ true
word_whole true column ps h = whole_behind (target_word column) ps refl h
word_whole false column ps h = h

targeted_whole : (b : Bool) (d : ℕ) (ps : List Placed) → is_whole ps ≡ true → is_whole (targeted b d ps) ≡ true
targeted_whole b d [] h = absurd cc
targeted_whole b d (p ∷ []) h = last_whole b p (first_true (ends_well p.lexeme true) true h)
targeted_whole b d (p ∷ q ∷ ps) h =
    let o = opens_condition b p.lexeme (lexemes (q ∷ ps)) in
    let rest = targeted ((d == 0) && is_if p.lexeme) (next_depth d p.lexeme) (q ∷ ps) in
    whole_more p (cond o (target_word p.column) [] ++ rest)
    (first_true (ends_well p.lexeme false) (all_end_well (q ∷ ps)) h)
    (word_whole o p.column rest
    (targeted_whole ((d == 0) && is_if p.lexeme) (next_depth d p.lexeme) (q ∷ ps)
    (second_true (ends_well p.lexeme false) (all_end_well (q ∷ ps)) h)))

front : (p q : Placed) (ps : List Placed) → is_whole (p ∷ q ∷ ps) ≡ true → ends_well p.lexeme false ≡ true
front p q ps h = first_true (ends_well p.lexeme false) (all_end_well (q ∷ ps)) h

rest : (p q : Placed) (ps : List Placed) → is_whole (p ∷ q ∷ ps) ≡ true → is_whole (q ∷ ps) ≡ true
rest p q ps h = second_true (ends_well p.lexeme false) (all_end_well (q ∷ ps)) h

pub conditioned_whole : (ts : List Lexeme) (ps : List Placed) → is_whole ps ≡ true → is_target (kinds_of ps) ≡ true →
    is_whole (conditioned ts ps) ≡ true
conditioned_whole ts [] h e = absurd cc
conditioned_whole ts (p ∷ []) h e = absurd cc
conditioned_whole ts (p ∷ q ∷ []) h e = absurd cc
conditioned_whole ts (p ∷ q ∷ r ∷ []) h e = absurd cc
conditioned_whole ts (p ∷ q ∷ r ∷ s ∷ ps) h e = go (has (codes "parallel") (take (name_len ts) ts))
  where
    behind_p : is_whole (q ∷ r ∷ s ∷ ps) ≡ true
    behind_p = rest p q (r ∷ s ∷ ps) h

    behind_q : is_whole (r ∷ s ∷ ps) ≡ true
    behind_q = rest q r (s ∷ ps) behind_p

    own : List Placed
    own = targeted false 0 (s ∷ ps)

    go : (b : Bool) → is_whole (cond b (p ∷ q ∷ r ∷ s ∷ ps) (p ∷ q ∷ r ∷ own)) ≡ true
    go true = h
    go false =
        whole_more p (q ∷ r ∷ own) (front p q (r ∷ s ∷ ps) h)
        (whole_more q (r ∷ own) (front q r (s ∷ ps) behind_p)
        (whole_more r own (front r s ps behind_q) (targeted_whole false 0 (s ∷ ps) (rest r s ps behind_q))))

-- and the line of a target
pub conditioned_target : (ts : List Lexeme) (ps : List Placed) → is_target (kinds_of ps) ≡ true →
    is_target (kinds_of (conditioned ts ps)) ≡ true
conditioned_target ts [] e = absurd cc
conditioned_target ts (p ∷ []) e = absurd cc
conditioned_target ts (p ∷ q ∷ []) e = absurd cc
conditioned_target ts (p ∷ q ∷ r ∷ []) e = absurd cc
conditioned_target ts (p ∷ q ∷ r ∷ s ∷ ps) e = go (has (codes "parallel") (take (name_len ts) ts))
  where
    go : (b : Bool) → is_target (kinds_of (cond b (p ∷ q ∷ r ∷ s ∷ ps) (p ∷ q ∷ r ∷ targeted false 0 (s ∷ ps)))) ≡ true
    go true = e
    go false = e

-- ---- the tokens that are put

kinds_behind : (n : ℕ) (ts : List PlacedLexeme) → all_kinds (drop n ts) ≡ drop n (all_kinds ts)
kinds_behind n ts =
    ap kinds_of (sym (drop-map seen_placed n ts)) ∙ sym (drop-map (λ (p : Placed). p.lexeme) n (all_placed ts))

-- n words of the name stand before the clauses of the line
pub conditioned_put : (ts cs : List PlacedLexeme) (n : ℕ) (b : Bool) → cs ≡ drop 3 ts → n ≡ name_len (all_kinds cs) →
    b ≡ has (codes "parallel") (all_kinds (take n cs)) →
    cond b (all_placed ts) (all_placed (take 3 ts) ++ targeted false 0 (all_placed cs))
    ≡ conditioned (drop 3 (all_kinds ts)) (all_placed ts)
conditioned_put ts cs n b e f g =
    let parallel = has (codes "parallel") (take (name_len (drop 3 (all_kinds ts))) (drop 3 (all_kinds ts))) in
    let words : take n (all_kinds cs) ≡ take (name_len (drop 3 (all_kinds ts))) (drop 3 (all_kinds ts)) =
    ap (λ (m : ℕ). take m (all_kinds cs)) f
    ∙ ap (λ (us : List Lexeme). take (name_len us) us) (ap all_kinds e ∙ kinds_behind 3 ts) in
    ap (λ (c : Bool). cond c (all_placed ts) (all_placed (take 3 ts) ++ targeted false 0 (all_placed cs)))
    (g ∙ ap (has (codes "parallel")) (kinds_front n cs ∙ words))
    ∙ ap (λ (ps : List Placed). cond parallel (all_placed ts) (ps ++ targeted false 0 (all_placed cs)))
    (sym (take-map seen_placed 3 ts))
    ∙ ap (λ (ps : List Placed). cond parallel (all_placed ts) (take 3 (all_placed ts) ++ targeted false 0 ps))
    (ap all_placed e ∙ sym (drop-map seen_placed 3 ts))

-- the line of a target with its conditions, joined with that of the construct inside
pub line_is : (os us ts : List PlacedLexeme) (ps qs : List Placed) → all_placed ts ≡ ps → all_placed us ≡ qs →
    all_placed os ≡ conditioned (drop 3 (all_kinds ts)) (all_placed ts) →
    joined_tokens (all_kinds os) (all_kinds us) (all_placed os) (all_placed us) ≡ joined_line (kinds_of ps) (kinds_of qs) ps qs
line_is os us ts ps qs e f g =
    let own : List Placed = conditioned (drop 3 (kinds_of ps)) ps in
    ap (λ (rs : List Placed). joined_tokens (kinds_of rs) (all_kinds us) rs (all_placed us))
    (g ∙ ap (λ (rs : List Placed). conditioned (drop 3 (kinds_of rs)) rs) e)
    ∙ ap (λ (rs : List Placed). joined_tokens (kinds_of own) (kinds_of rs) own rs) f
