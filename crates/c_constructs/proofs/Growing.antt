-- Lists that grow by what sections mean.
use Rattle.std.proofs.Common.{◌≡◌, ℕ, ◌+◌, ◌<◌, ◌≤◌, Bool, List, [], ◌∷◌, ◌++◌, length, map, take, get_or, refl, sym, ap, ◌∙◌, append_assoc, subst}
use Rattle.std.proofs.lemmas.List.{append-nil, map_more, take_all}
use Rattle.base.specs.declared.tree.SectionText.{SectionText}
use Rattle.base.specs.declared.tree.MapText.{MapText}
use Rattle.base.specs.declared.tree.UpdateKind.{UpdateKind}
use Rattle.base.specs.declared.tree.UpdateText.{UpdateText}
use Rattle.base.specs.declared.tree.DependKind.{DependKind}
use Rattle.base.specs.declared.tree.DependText.{DependText}
use Rattle.c_grammar.specs.LineGrammar as line
use Rattle.c_expressions.specs.Means.{Names}
use Rattle.directives.specs.declared.tree.Section.{Section}
use Rattle.c_constructs.specs.Sections.{Given, given_one, Pairs, Grows, IsMapAt, IsUpdateAt, IsDependAt, IsSectionAt}
use Rattle.c_constructs.specs.Written.{seen_update, seen_depend}

one_pair : {X : Type 0} → {Y : Type 0} → (R : X → Y → Type 0) (xs : List X) (ys : List Y) (x : X) (y : Y) →
    Pairs R xs ys → R x y → Pairs R (xs ++ x ∷ []) (ys ++ y ∷ [])
one_pair R [] [] x y h i = (i, tt)
one_pair R [] (b ∷ ys) x y h i = absurd h
one_pair R (a ∷ xs) [] x y h i = absurd h
one_pair R (a ∷ xs) (b ∷ ys) x y h i = (h.0, one_pair R xs ys x y h.1 i)

pub grows_one : {X : Type 0} → {Y : Type 0} → (R : X → Y → Type 0) (x : X) (y : Y) (old new : List Y) → R x y →
    new ≡ old ++ y ∷ [] → Grows R (x ∷ []) old new
grows_one R x y old new h e = record {
  more = λ gs i. subst (λ zs. Pairs R (gs ++ x ∷ []) zs) (sym e) (one_pair R gs old x y i h);
}

pub grows_none : {X : Type 0} → {Y : Type 0} → (R : X → Y → Type 0) (old : List Y) → Grows R [] old old
grows_none R old = record { more = λ gs i. subst (λ zs. Pairs R zs old) (sym (append-nil gs)) i }

pub grows_then : {X : Type 0} → {Y : Type 0} → (R : X → Y → Type 0) (xs us : List X) (a b c : List Y) →
    Grows R xs a b → Grows R us b c → Grows R (xs ++ us) a c
grows_then R xs us a b c h i = record {
  more = λ gs p. subst (λ zs. Pairs R zs c) (append_assoc gs xs us) (i.more (gs ++ xs) (h.more gs p));
}

-- the first and as many more as have been read, and one more of those
pub grows_next : {K : Type 0} → {Y : Type 0} → (R : Given K → Y → Type 0) (kind : K) (first : Section)
    (xs ys : List Section) (k : ℕ) (d : Section) (a b c : List Y) → ys ≡ xs → k < length ys → d ≡ get_or ys k d →
    Grows R (given_one kind first ∷ map (given_one kind) (take k xs)) a b → Grows R (given_one kind d ∷ []) b c →
    Grows R (given_one kind first ∷ map (given_one kind) (take (k + 1) xs)) a c
grows_next {K = K} R kind first xs ys k d a b c e l j h i =
    let more : map (given_one kind) (take (k + 1) xs) ≡ map (given_one kind) (take k xs) ++ given_one kind d ∷ [] =
    ap (λ (zs : List Section). map (given_one kind) (take (k + 1) zs)) (sym e)
    ∙ map_more (given_one kind) ys k d l
    ∙ ap (λ (zs : List Section). map (given_one kind) (take k zs) ++ given_one kind (get_or ys k d) ∷ []) e
    ∙ ap (λ (z : Section). map (given_one kind) (take k xs) ++ given_one kind z ∷ []) (sym j) in
    subst (λ (us : List (Given K)). Grows R (given_one kind first ∷ us) a c) (sym more)
    (grows_then R (given_one kind first ∷ map (given_one kind) (take k xs)) (given_one kind d ∷ []) a b c h i)

pub grows_map : {K : Type 0} → (seen : K → line.MapType) (names : Names) (at : ℕ) (kind : K)
    (always present : Bool) (s : Section) (t : SectionText) (old new : List (MapText K)) → IsSectionAt names at s t →
    new ≡ old ++ record { kind = kind; always = always; present = present; section = t } ∷ [] →
    Grows (IsMapAt seen names at) (given_one (always, present, seen kind) s ∷ []) old new
grows_map seen names at kind always present s t old new h e =
    grows_one (IsMapAt seen names at) (given_one (always, present, seen kind) s)
    (record { kind = kind; always = always; present = present; section = t }) old new (refl, h) e

pub grows_update : (names : Names) (at : ℕ) (kind : UpdateKind) (present : Bool) (s : Section) (t : SectionText)
    (old new : List UpdateText) → IsSectionAt names at s t →
    new ≡ old ++ record { kind = kind; present = present; section = t } ∷ [] →
    Grows (IsUpdateAt names at) (given_one (present, seen_update kind) s ∷ []) old new
grows_update names at kind present s t old new h e =
    grows_one (IsUpdateAt names at) (given_one (present, seen_update kind) s)
    (record { kind = kind; present = present; section = t }) old new (refl, h) e

pub grows_depend : (names : Names) (at : ℕ) (kind : DependKind) (s : Section) (t : SectionText)
    (old new : List DependText) → IsSectionAt names at s t →
    new ≡ old ++ record { kind = kind; section = t } ∷ [] →
    Grows (IsDependAt names at) (given_one (seen_depend kind) s ∷ []) old new
grows_depend names at kind s t old new h e =
    grows_one (IsDependAt names at) (given_one (seen_depend kind) s) (record { kind = kind; section = t }) old new
    (refl, h) e

-- all that there are
pub grows_all : {K : Type 0} → {Y : Type 0} → (R : Given K → Y → Type 0) (kind : K) (first : Section)
    (xs ys : List Section) (k : ℕ) (a b : List Y) → ys ≡ xs → length ys ≤ k →
    Grows R (given_one kind first ∷ map (given_one kind) (take k xs)) a b →
    Grows R (given_one kind first ∷ map (given_one kind) xs) a b
grows_all R kind first xs ys k a b e h g =
    let all : take k xs ≡ xs = ap (λ (zs : List Section). take k zs) (sym e) ∙ take_all k ys h ∙ e in
    subst (λ (zs : List Section). Grows R (given_one kind first ∷ map (given_one kind) zs) a b) all g
