-- Terms one after the other.
use Rattle.std.proofs.Common.{◌≡◌, ℕ, ◌+◌, ◌<◌, List, [], ◌∷◌, ◌++◌, length, map, take, get_or, refl, sym, ap, ◌∙◌, subst, append-nil}
use Rattle.std.proofs.lemmas.List.{map_more}
use Rattle.base.specs.declared.tree.Term.{Term as Product}
use Rattle.base.specs.declared.tree.Bound.{Bound as Read}
use Rattle.c_grammar.specs.LineGrammar as line
use Rattle.c_expressions.specs.Means.{Names}
use Rattle.directives.specs.declared.tree.SignedTerm.{SignedTerm}
use Rattle.directives.specs.Trees.{signed_of}
use Rattle.c_constructs.specs.Written.{IsTerm, AreTerms, IsBound, added_first, added, taken_first, taken}

one_more : (names : Names) (ts : List line.Term) (ps : List Product) (t : line.Term) (p : Product) →
    AreTerms names ts ps → IsTerm names t p → AreTerms names (ts ++ t ∷ []) (ps ++ p ∷ [])
one_more names [] [] t p h i = (i, tt)
one_more names [] (q ∷ ps) t p h i = absurd h
one_more names (u ∷ ts) [] t p h i = absurd h
one_more names (u ∷ ts) (q ∷ ps) t p h i = (h.0, one_more names ts ps t p h.1 i)

-- ---- one more behind a sign

added_on : (g : line.TermSign) (t : line.Term) (xs ys : List line.Term) →
    added_first g t (xs ++ ys) ≡ added_first g t xs ++ ys
added_on line.Added t xs ys = refl
added_on line.Taken t xs ys = refl

added_more : (ts : List line.SignedTerm) (x : line.SignedTerm) → added (ts ++ x ∷ []) ≡ added ts ++ added_first x.0 x.1 []
added_more [] x = refl
added_more (t ∷ ts) x = ap (added_first t.0 t.1) (added_more ts x) ∙ added_on t.0 t.1 (added ts) (added_first x.0 x.1 [])

taken_on : (g : line.TermSign) (t : line.Term) (xs ys : List line.Term) →
    taken_first g t (xs ++ ys) ≡ taken_first g t xs ++ ys
taken_on line.Added t xs ys = refl
taken_on line.Taken t xs ys = refl

taken_more : (ts : List line.SignedTerm) (x : line.SignedTerm) → taken (ts ++ x ∷ []) ≡ taken ts ++ taken_first x.0 x.1 []
taken_more [] x = refl
taken_more (t ∷ ts) x = ap (taken_first t.0 t.1) (taken_more ts x) ∙ taken_on t.0 t.1 (taken ts) (taken_first x.0 x.1 [])

module _ (names : Names) (old new : Read) (p : Product) (b : line.Bound) (t : line.Term) where
  pub added_read : new.terms.items ≡ old.terms.items ++ p ∷ [] → new.less.items ≡ old.less.items →
      IsBound names b old → IsTerm names t p → IsBound names (b.0, b.1 ++ (line.Added, t) ∷ []) new
  added_read e f h i = record {
    terms = subst (λ (ps : List Product). AreTerms names (b.0 ∷ added (b.1 ++ (line.Added, t) ∷ [])) ps) (sym e)
        (subst (λ (ts : List line.Term). AreTerms names (b.0 ∷ ts) (old.terms.items ++ p ∷ []))
        (sym (added_more b.1 (line.Added, t)))
        (one_more names (b.0 ∷ added b.1) old.terms.items t p h.terms i));
    less = subst (λ (ps : List Product). AreTerms names (taken (b.1 ++ (line.Added, t) ∷ [])) ps) (sym f)
        (subst (λ (ts : List line.Term). AreTerms names ts old.less.items)
        (sym (taken_more b.1 (line.Added, t) ∙ append-nil (taken b.1))) h.less);
  }

  pub taken_read : new.terms.items ≡ old.terms.items → new.less.items ≡ old.less.items ++ p ∷ [] →
      IsBound names b old → IsTerm names t p → IsBound names (b.0, b.1 ++ (line.Taken, t) ∷ []) new
  taken_read e f h i = record {
    terms = subst (λ (ps : List Product). AreTerms names (b.0 ∷ added (b.1 ++ (line.Taken, t) ∷ [])) ps) (sym e)
        (subst (λ (ts : List line.Term). AreTerms names (b.0 ∷ ts) old.terms.items)
        (sym (added_more b.1 (line.Taken, t) ∙ append-nil (added b.1))) h.terms);
    less = subst (λ (ps : List Product). AreTerms names (taken (b.1 ++ (line.Taken, t) ∷ [])) ps) (sym f)
        (subst (λ (ts : List line.Term). AreTerms names ts (old.less.items ++ p ∷ []))
        (sym (taken_more b.1 (line.Taken, t))) (one_more names (taken b.1) old.less.items t p h.less i));
  }

-- the terms up to the next one
pub next_terms : (names : Names) (first : line.Term) (xs ys : List SignedTerm) (k : ℕ) (d : SignedTerm) (b : Read) →
    ys ≡ xs → k < length ys →
    IsBound names (first, map signed_of (take k xs) ++ signed_of (get_or ys k d) ∷ []) b →
    IsBound names (first, map signed_of (take (k + 1) xs)) b
next_terms names first xs ys k d b e l h =
    let more : map signed_of (take (k + 1) xs) ≡ map signed_of (take k xs) ++ signed_of (get_or ys k d) ∷ [] =
    ap (λ (zs : List SignedTerm). map signed_of (take (k + 1) zs)) (sym e)
    ∙ map_more signed_of ys k d l
    ∙ ap (λ (zs : List SignedTerm). map signed_of (take k zs) ++ signed_of (get_or ys k d) ∷ []) e in
    subst (λ (ts : List line.SignedTerm). IsBound names (first, ts) b) (sym more) h
