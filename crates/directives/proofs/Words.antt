-- The first words of a line.
use Rattle.std.proofs.Common.{◌≡◌, ◌<◌, ◌≤◌, ℕ, Bool, true, false, cond, List, [], ◌∷◌, length, map, refl, sym, ap, subst, ◌∙◌, arith}
use Rattle.std.specs.Prelude.{codes, slice_index_or}
use Rattle.c_grammar.specs.Lexeme.{Lexeme, Reserved, Signed, Worded, Numbered, Strange, Ended, Placed, same}
use Rattle.c_grammar.specs.LineGrammar.{DirectiveKind, Wait, AtomicUpdate}
use Rattle.c_grammar.specs.Lines.{follows, first_kind, is_atomic_kind, is_atomic, kind_of, is_omp}
use Rattle.c_grammar.proofs.Lexemes.{same-true}
use Rattle.directives.specs.declared.lexeme.PlacedLexeme.{PlacedLexeme}
use Rattle.directives.specs.Seen.{seen_lexeme, seen_placed, ends_well}
use Rattle.directives.specs.Spells.{kinds_of}

abbrev pragma : Lexeme
pragma = Worded (codes "pragma")

abbrev omp : Lexeme
omp = Worded (codes "omp")

pub omp_not : (ps qs : List Placed) (p : Placed) → ps ≡ p ∷ qs → same pragma p.lexeme ≡ false →
    is_omp (kinds_of ps) ≡ false
unfolding is_omp
omp_not ps [] p e h = ap (λ (us : List Placed). is_omp (kinds_of us)) e
omp_not ps (q ∷ qs) p e h = ap (λ (us : List Placed). is_omp (kinds_of us)) e ∙ rw h refl

pub omp_is : (ps qs rs : List Placed) (p q : Placed) → ps ≡ p ∷ qs → qs ≡ q ∷ rs → same pragma p.lexeme ≡ true →
    is_omp (kinds_of ps) ≡ same omp q.lexeme
unfolding is_omp
omp_is ps qs rs p q e f h =
    ap (λ (us : List Placed). is_omp (kinds_of us)) (e ∙ ap (λ (us : List Placed). p ∷ us) f) ∙ rw h refl

-- something follows a word
pub word_goes : (x : List ℕ) (t : Lexeme) (o : Bool) → same (Worded x) t ≡ true → ends_well t o ≡ true → o ≡ false
word_goes x t false e h = refl
word_goes x Ended true e h = absurd cc
word_goes x Strange true e h = absurd cc
word_goes x (Reserved w) true e h = absurd cc
word_goes x (Signed s) true e h = absurd cc
word_goes x (Worded y) true e h = absurd cc
word_goes x (Numbered n) true e h = absurd cc

-- ---- the third word

apart_if : (b : Bool) (k j : DirectiveKind) → is_atomic_kind k ≡ false → is_atomic_kind j ≡ false →
    is_atomic_kind (cond b k j) ≡ false
apart_if true k j h o = h
apart_if false k j h o = o

follows_apart : (t : Lexeme) → is_atomic_kind (follows t) ≡ false
follows_apart t =
    apart_if (same (Worded (codes "data")) t) _ _ refl
    (apart_if (same (Worded (codes "enter")) t) _ _ refl
    (apart_if (same (Worded (codes "exit")) t) _ _ refl (apart_if (same (Worded (codes "update")) t) _ _ refl refl)))

-- behind the word target no atomic store is named
target_apart : (ts : List Lexeme) → is_atomic_kind (first_kind ts) ≡ false
target_apart [] = refl
target_apart (t ∷ ts) =
    apart_if (same (Worded (codes "simd")) t) _ _ refl
    (apart_if (same (Worded (codes "parallel")) t) _ _ refl
    (apart_if (same (Worded (codes "teams")) t) _ _ refl (follows_apart t)))

atomic_at : (a b t : Lexeme) (ts : List Lexeme) → is_atomic (a ∷ b ∷ t ∷ ts) ≡ same (Worded (codes "atomic")) t
unfolding is_atomic kind_of
atomic_at a b t ts = by_target (same (Worded (codes "target")) t) refl
  where
    by_word : (x : Bool) → is_atomic_kind (cond x AtomicUpdate Wait) ≡ x
    by_word true = refl
    by_word false = refl

    by_target : (x : Bool) → same (Worded (codes "target")) t ≡ x →
        is_atomic_kind (cond x (first_kind ts) (cond (same (Worded (codes "atomic")) t) AtomicUpdate Wait)) ≡ same
        (Worded (codes "atomic")) t
    by_target true e =
        let other : same (Worded (codes "atomic")) t ≡ false =
        subst (λ (u : Lexeme). same (Worded (codes "atomic")) u ≡ false) (same-true (Worded (codes "target")) t e) refl in
        target_apart ts ∙ sym other
    by_target false e = by_word (same (Worded (codes "atomic")) t)

atomic_is : (ps rs : List Placed) (p q r : Placed) → ps ≡ p ∷ q ∷ r ∷ rs →
    is_atomic (kinds_of ps) ≡ same (Worded (codes "atomic")) r.lexeme
atomic_is ps rs p q r e =
    ap (λ (us : List Placed). is_atomic (kinds_of us)) e ∙ atomic_at p.lexeme q.lexeme r.lexeme (kinds_of rs)

-- so few words say nothing
pub atomic_few : (xs : List PlacedLexeme) (ps : List Placed) → length xs < 3 → map seen_placed xs ≡ ps →
    is_atomic (kinds_of ps) ≡ false
unfolding is_atomic kind_of
atomic_few [] ps h e = ap (λ (us : List Placed). is_atomic (kinds_of us)) (sym e)
atomic_few (x ∷ []) ps h e = ap (λ (us : List Placed). is_atomic (kinds_of us)) (sym e)
atomic_few (x ∷ y ∷ []) ps h e = ap (λ (us : List Placed). is_atomic (kinds_of us)) (sym e)
atomic_few (x ∷ y ∷ z ∷ xs) ps h e = absurd (omega (arith, h))

atomic_third : (xs : List PlacedLexeme) (ps : List Placed) (d : PlacedLexeme) → 3 ≤ length xs →
    map seen_placed xs ≡ ps →
    same (Worded (codes "atomic")) (seen_lexeme (slice_index_or xs 2 d).lexeme) ≡ is_atomic (kinds_of ps)
atomic_third [] ps d h e = absurd (omega (arith, h))
atomic_third (x ∷ []) ps d h e = absurd (omega (arith, h))
atomic_third (x ∷ y ∷ []) ps d h e = absurd (omega (arith, h))
atomic_third (x ∷ y ∷ z ∷ xs) ps d h e =
    sym (atomic_is ps (map seen_placed xs) (seen_placed x) (seen_placed y) (seen_placed z) (sym e))

-- the third tells
pub told_by_third : (b : Bool) (word : List ℕ) (xs : List PlacedLexeme) (ps : List Placed) (d : PlacedLexeme) →
    b ≡ same (Worded word) (seen_lexeme (slice_index_or xs 2 d).lexeme) → word ≡ codes "atomic" → 3 ≤ length xs →
    map seen_placed xs ≡ ps → b ≡ is_atomic (kinds_of ps)
told_by_third b word xs ps d s w h e =
    s ∙ ap (λ (x : List ℕ). same (Worded x) (seen_lexeme (slice_index_or xs 2 d).lexeme)) w ∙ atomic_third xs ps d h e
