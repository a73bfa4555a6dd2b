-- The longest runs of statements become regions of the host.
use Rattle.std.proofs.Common.{◌≡◌, Bool, true, false, List, [], ◌∷◌, ◌++◌, Some, None, refl, sym, ap, subst, ◌∙◌, append_assoc}
use Rattle.std.proofs.lemmas.List.{append-nil}
use Rattle.base.specs.declared.tree.Place.{Place}
use Rattle.base.specs.declared.tree.Region.{Region}
use Rattle.base.specs.declared.tree.Stmt.{Stmt as Statement}
use Rattle.base.specs.declared.tree.Part.{Part}
use Rattle.base.specs.declared.tree.Part.TheVariants as part
use Rattle.c_read.specs.declared.piece.Piece.TheVariants as piece
use Rattle.c_read.specs.declared.gathered.Gathered.{Gathered}
use Rattle.c_read.specs.Parts.{Placed, plain, pieces_in, pieces_of, is_host, are_mixed, AreLongest}
use Rattle.c_read.specs.Gathering.{so_far, ends_host, AreNoneOrMixed, IsGathered, Adds, Closes}

-- ---- pieces

plain_append : (xs ys : List Statement) → plain (xs ++ ys) ≡ plain xs ++ plain ys
plain_append [] ys = refl
plain_append (x ∷ xs) ys = ap (λ (ps : List Placed). (None, piece.Statement x) ∷ ps) (plain_append xs ys)

pieces_append : (ps qs : List Part) → pieces_of (ps ++ qs) ≡ pieces_of ps ++ pieces_of qs
pieces_append [] qs = refl
pieces_append (part.Host r ∷ ps) qs =
    ap (λ (us : List Placed). pieces_in r.place r.body.items ++ us) (pieces_append ps qs)
    ∙ sym (append_assoc (pieces_in r.place r.body.items) (pieces_of ps) (pieces_of qs))
pieces_append (part.Block' shape row ∷ ps) qs = ap (λ (us : List Placed). (None, piece.Part (part.Block' shape row)) ∷ us) (pieces_append ps qs)
pieces_append (part.Loop' b shape row ∷ ps) qs = ap (λ (us : List Placed). (None, piece.Part (part.Loop' b shape row)) ∷ us) (pieces_append ps qs)
pieces_append (part.Target t r ∷ ps) qs = ap (λ (us : List Placed). (None, piece.Part (part.Target t r)) ∷ us) (pieces_append ps qs)
pieces_append (part.Data' d shape row ∷ ps) qs = ap (λ (us : List Placed). (None, piece.Part (part.Data' d shape row)) ∷ us) (pieces_append ps qs)
pieces_append (part.Alone at d ∷ ps) qs = ap (λ (us : List Placed). (None, piece.Part (part.Alone at d)) ∷ us) (pieces_append ps qs)

piece_alone : (p : Part) → is_host p ≡ false → pieces_of (p ∷ []) ≡ (None, piece.Part p) ∷ []
piece_alone (part.Host r) e = absurd cc
piece_alone (part.Block' shape row) e = refl
piece_alone (part.Loop' b shape row) e = refl
piece_alone (part.Target t r) e = refl
piece_alone (part.Data' d shape row) e = refl
piece_alone (part.Alone at d) e = refl

-- ---- the shape of parts

longest_then : (follows : Bool) (ps qs : List Part) → AreLongest follows ps → AreLongest (ends_host follows ps) qs →
    AreLongest follows (ps ++ qs)
longest_then follows [] qs h k = k
longest_then follows (part.Host r ∷ ps) qs h k = (h.0, h.1, longest_then true ps qs h.2 k, h.3)
longest_then follows (part.Block' shape row ∷ ps) qs h k = longest_then false ps qs h k
longest_then follows (part.Loop' b shape row ∷ ps) qs h k = longest_then false ps qs h k
longest_then follows (part.Target t r ∷ ps) qs h k = longest_then false ps qs h k
longest_then follows (part.Data' d shape row ∷ ps) qs h k = longest_then false ps qs h k
longest_then follows (part.Alone at d ∷ ps) qs h k = longest_then false ps qs h k

pub longest_alone : (follows : Bool) (p : Part) → is_host p ≡ false → AreLongest follows (p ∷ [])
longest_alone follows (part.Host r) e = absurd cc
longest_alone follows (part.Block' shape row) e = tt
longest_alone follows (part.Loop' b shape row) e = tt
longest_alone follows (part.Target t r) e = tt
longest_alone follows (part.Data' d shape row) e = tt
longest_alone follows (part.Alone at d) e = tt

ends_then : (b : Bool) (ps : List Part) (p : Part) → ends_host b (ps ++ p ∷ []) ≡ is_host p
ends_then b [] p = refl
ends_then b (q ∷ ps) p = ends_then (is_host q) ps p

mixed_more : (ps qs : List Part) → are_mixed ps ≡ true → are_mixed (ps ++ qs) ≡ true
mixed_more [] qs e = absurd cc
mixed_more (part.Host r ∷ ps) qs e = mixed_more ps qs e
mixed_more (part.Block' shape row ∷ ps) qs e = refl
mixed_more (part.Loop' b shape row ∷ ps) qs e = refl
mixed_more (part.Target t r ∷ ps) qs e = refl
mixed_more (part.Data' d shape row ∷ ps) qs e = refl
mixed_more (part.Alone at d ∷ ps) qs e = refl

mixed_by : (ps : List Part) (p : Part) → is_host p ≡ false → are_mixed (ps ++ p ∷ []) ≡ true
mixed_by [] (part.Host r) e = absurd cc
mixed_by [] (part.Block' shape row) e = refl
mixed_by [] (part.Loop' b shape row) e = refl
mixed_by [] (part.Target t r) e = refl
mixed_by [] (part.Data' d shape row) e = refl
mixed_by [] (part.Alone at d) e = refl
mixed_by (part.Host r ∷ ps) p e = mixed_by ps p e
mixed_by (part.Block' shape row ∷ ps) p e = refl
mixed_by (part.Loop' b shape row ∷ ps) p e = refl
mixed_by (part.Target t r ∷ ps) p e = refl
mixed_by (part.Data' d shape row ∷ ps) p e = refl
mixed_by (part.Alone at d ∷ ps) p e = refl

none_or : (ps : List Part) → are_mixed ps ≡ true → AreNoneOrMixed ps
none_or [] e = tt
none_or (p ∷ ps) e = e

-- ---- nothing yet

pub gathered_none : (g : Gathered) → g.parts.items ≡ [] → IsGathered g
gathered_none g e = record {
  longest = subst (λ (ps : List Part). AreLongest false ps) (sym e) tt;
  ends = ap (ends_host false) e;
  mixed = subst AreNoneOrMixed (sym e) tt;
}

pub pieces_none : (g : Gathered) → g.parts.items ≡ [] → g.run.items ≡ [] → so_far g ≡ []
pieces_none g e f = rw (e, f) refl

-- ---- the open region is closed

pub closes_none : (g : Gathered) → g.run.items ≡ [] → Closes g g
closes_none g e = record {
  run = e;
  pieces = sym (append-nil (pieces_of g.parts.items)) ∙ ap (λ (xs : List Statement). pieces_of g.parts.items ++ pieces_in g.place xs) (sym e);
  longest = λ h. h.longest;
  mixed = λ h. h;
}

pub closes_run : (g h : Gathered) (r : Region) → r.place ≡ g.place → r.body.items ≡ g.run.items → r.depth ≡ 0 → (g.run.items ≡ [] → ⊥) →
    h.parts.items ≡ g.parts.items ++ part.Host r ∷ [] → h.run.items ≡ [] → Closes g h
closes_run g h r p b o n e f = record {
  run = f;
  pieces = ap pieces_of e ∙ pieces_append g.parts.items (part.Host r ∷ [])
      ∙ ap (λ (us : List Placed). pieces_of g.parts.items ++ us) (append-nil (pieces_in r.place r.body.items))
      ∙ ap (λ (q : Place). pieces_of g.parts.items ++ pieces_in q r.body.items) p
      ∙ ap (λ (xs : List Statement). pieces_of g.parts.items ++ pieces_in g.place xs) b;
  longest = λ s. subst (λ (ps : List Part). AreLongest false ps) (sym e)
      (longest_then false g.parts.items (part.Host r ∷ []) s.longest (s.ends, (λ k. n (sym b ∙ k)), tt, o));
  mixed = λ m. ap are_mixed e ∙ mixed_more g.parts.items (part.Host r ∷ []) m;
}

-- ---- a piece more

pub adds_part : (place : Place) (old mid new : Gathered) (p : Part) → IsGathered old → Closes old mid → is_host p ≡ false →
    new.parts.items ≡ mid.parts.items ++ p ∷ [] → new.run.items ≡ [] → Adds place (piece.Part p) old new
adds_part place old mid new p s c n e f = record {
  at = None;
  is_at = tt;
  pieces = ap (λ (xs : List Statement). pieces_of new.parts.items ++ pieces_in new.place xs) f ∙ append-nil (pieces_of new.parts.items)
      ∙ ap pieces_of e ∙ pieces_append mid.parts.items (p ∷ []) ∙ ap (λ (us : List Placed). us ++ pieces_of (p ∷ [])) c.pieces
      ∙ ap (λ (us : List Placed). so_far old ++ us) (piece_alone p n);
  sound = record {
    longest = subst (λ (ps : List Part). AreLongest false ps) (sym e)
        (longest_then false mid.parts.items (p ∷ []) (c.longest s) (longest_alone (ends_host false mid.parts.items) p n));
    ends = ap (ends_host false) e ∙ ends_then false mid.parts.items p ∙ n;
    mixed = none_or new.parts.items (ap are_mixed e ∙ mixed_by mid.parts.items p n);
  };
}

same_sound : (old new : Gathered) → new.parts.items ≡ old.parts.items → IsGathered old → IsGathered new
same_sound old new e s = record {
  longest = subst (λ (ps : List Part). AreLongest false ps) (sym e) s.longest;
  ends = ap (ends_host false) e ∙ s.ends;
  mixed = subst AreNoneOrMixed (sym e) s.mixed;
}

pieces_more : (place : Place) (xs : List Statement) (x : Statement) → (xs ≡ [] → ⊥) →
    pieces_in place (xs ++ x ∷ []) ≡ pieces_in place xs ++ (None, piece.Statement x) ∷ []
pieces_more place [] x n = absurd (n refl)
pieces_more place (y ∷ xs) x n = ap (λ (us : List Placed). (Some place, piece.Statement y) ∷ us) (plain_append xs (x ∷ []))

pub adds_first : (place : Place) (old new : Gathered) (x : Statement) → IsGathered old → old.run.items ≡ [] →
    new.parts.items ≡ old.parts.items → new.place ≡ place → new.run.items ≡ old.run.items ++ x ∷ [] →
    Adds place (piece.Statement x) old new
adds_first place old new x s n e p f = record {
  at = Some place;
  is_at = refl;
  pieces = ap (λ (ps : List Part). pieces_of ps ++ pieces_in new.place new.run.items) e
      ∙ ap (λ (q : Place). pieces_of old.parts.items ++ pieces_in q new.run.items) p
      ∙ ap (λ (xs : List Statement). pieces_of old.parts.items ++ pieces_in place xs) (f ∙ ap (λ (xs : List Statement). xs ++ x ∷ []) n)
      ∙ ap (λ (us : List Placed). us ++ (Some place, piece.Statement x) ∷ []) (sym (append-nil (pieces_of old.parts.items))
      ∙ ap (λ (xs : List Statement). pieces_of old.parts.items ++ pieces_in old.place xs) (sym n));
  sound = same_sound old new e s;
}

pub adds_statement : (place : Place) (old new : Gathered) (x : Statement) → IsGathered old → (old.run.items ≡ [] → ⊥) →
    new.parts.items ≡ old.parts.items → new.place ≡ old.place → new.run.items ≡ old.run.items ++ x ∷ [] →
    Adds place (piece.Statement x) old new
adds_statement place old new x s n e p f = record {
  at = None;
  is_at = tt;
  pieces = ap (λ (ps : List Part). pieces_of ps ++ pieces_in new.place new.run.items) e
      ∙ ap (λ (q : Place). pieces_of old.parts.items ++ pieces_in q new.run.items) p
      ∙ ap (λ (xs : List Statement). pieces_of old.parts.items ++ pieces_in old.place xs) f
      ∙ ap (λ (us : List Placed). pieces_of old.parts.items ++ us) (pieces_more old.place old.run.items x n)
      ∙ sym (append_assoc (pieces_of old.parts.items) (pieces_in old.place old.run.items) ((None, piece.Statement x) ∷ []));
  sound = same_sound old new e s;
}
