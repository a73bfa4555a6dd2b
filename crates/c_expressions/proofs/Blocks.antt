-- How the open blocks and their names change.
use Rattle.std.proofs.Common.{◌≡◌, ℕ, ◌+◌, ◌-◌, ◌<◌, Bool, true, false, List, [], ◌∷◌, ◌++◌, length, map, reverse, take, set, get_or, eqb, Option, Some, None, refl, sym, ap, ◌∙◌, arith, take_all, length-set}
use Rattle.std.specs.Prelude.{◌||◌, Result, Ok, Err, OnErr}
use Rattle.std.proofs.lemmas.Bool.Decides.{nat_tests}
use Rattle.std.specs.List.{flat_map}
use Rattle.std.proofs.lemmas.List.{reverse-append, take_more_set, take_more}
use Rattle.c_grammar.specs.Rules.{Context, Frame, ALoop, inside, under_if, opened, declared, with_name}
use Rattle.c_expressions.specs.declared.changes.Turn.{Turn}
use Rattle.c_expressions.specs.declared.scope.Frame.{Frame as GivenFrame}
use Rattle.c_expressions.specs.declared.scope.Name.{Name}
use Rattle.c_expressions.specs.declared.scope.Scope.{Scope}
use Rattle.c_expressions.specs.Means.{Names}
use Rattle.c_expressions.specs.Scopes.{box_numbers, context_of, frames_of, names_in, seen_frame, seen_name, fresh_name, sorted_name, sort_of_meaning}
use Rattle.c_expressions.specs.Changes.{turn_name, turn_names}

-- ---- the last of a list

pub reverse_one : {A : Type 0} (xs : List A) (x : A) → reverse (xs ++ x ∷ []) ≡ x ∷ reverse xs
reverse_one xs x = reverse-append xs (x ∷ [])

set_last : {A : Type 0} (xs : List A) (k : ℕ) (x : A) → k + 1 ≡ length xs → set xs k x ≡ take k xs ++ x ∷ []
set_last xs k x e =
    sym (take_all (k + 1) (set xs k x) (omega (arith, e, length-set xs k x))) ∙ take_more_set xs k x (omega (arith, e))

whole : {A : Type 0} (xs : List A) (k : ℕ) (d : A) → k + 1 ≡ length xs → xs ≡ take k xs ++ get_or xs k d ∷ []
whole xs k d e = sym (take_all (k + 1) xs (omega (arith, e))) ∙ take_more xs k d (omega (arith, e))

reverse_last : {A : Type 0} (xs : List A) (k : ℕ) (d : A) → k + 1 ≡ length xs →
    reverse xs ≡ get_or xs k d ∷ reverse (take k xs)
reverse_last xs k d e = ap reverse (whole xs k d e) ∙ reverse_one (take k xs) (get_or xs k d)

reverse_set : {A : Type 0} (xs : List A) (k : ℕ) (x : A) → k + 1 ≡ length xs →
    reverse (set xs k x) ≡ x ∷ reverse (take k xs)
reverse_set xs k x e = ap reverse (set_last xs k x e) ∙ reverse_one (take k xs) x

-- ---- the innermost block

pub inside_none : (s : Scope) (d n : ℕ) → s.frames.items ≡ [] → inside (context_of s d n) ≡ false
inside_none s d n e = rw e refl

pub choice_none : (s : Scope) (d n : ℕ) → s.frames.items ≡ [] → under_if (context_of s d n) ≡ false
choice_none s d n e = rw e refl

pub inside_last : (s : Scope) (d n k : ℕ) (f : GivenFrame) → k + 1 ≡ length s.frames.items →
    f ≡ get_or s.frames.items k f → inside (context_of s d n) ≡ f.inside
inside_last s d n k f h e = rw (reverse_last s.frames.items k f h) (ap (λ (g : GivenFrame). g.inside) (sym e))

pub choice_last : (s : Scope) (d n k : ℕ) (f : GivenFrame) → k + 1 ≡ length s.frames.items →
    f ≡ get_or s.frames.items k f → under_if (context_of s d n) ≡ f.choice
choice_last s d n k f h e = rw (reverse_last s.frames.items k f h) (ap (λ (g : GivenFrame). g.choice) (sym e))

pub or_other : (a b : Bool) → a ≡ false → b ≡ (a || b)
or_other true b e = absurd cc
or_other false b e = refl

-- ---- contexts

-- the context of a scope with other blocks
abbrev pub context_with : Scope → Option (List ℕ) → List Frame → Bool → Bool → ℕ → ℕ → Context
context_with s fresh fs target choice d n = record {
  frames = fs;
  boxes = box_numbers s;
  fresh = fresh;
  turn = None;
  target = target;
  choice = choice;
  limit = s.limit;
  cells = s.cells;
  arrays = s.arrays;
  scalars = s.scalars;
  statements = s.statements;
  depth = d;
  tokens = n;
}

-- ---- a block more

turn_sorted : (t : Option Turn) → map sorted_name (turn_names t) ≡ with_name (turn_name t) ALoop []
turn_sorted None = refl
turn_sorted (Some t) = refl

pub opened_is : (s : Scope) (xs : List GivenFrame) (f : GivenFrame) (t : Option Turn) →
    xs ≡ s.frames.items ++ f ∷ [] → names_in f ≡ turn_names t →
    ((d n : ℕ) → f.inside ≡ (inside (context_of s d n) || s.target)) →
    ((d n : ℕ) → f.choice ≡ (under_if (context_of s d n) || s.choice)) → (d n : ℕ) →
    context_with s (fresh_name s.fresh) (map seen_frame (reverse xs)) false false d n ≡
    opened (record (context_of s d n) { turn = turn_name t })
opened_is s xs f t e h i k d n =
    let fs = frames_of s in
    ap (λ (gs : List GivenFrame). context_with s (fresh_name s.fresh) (map seen_frame (reverse gs)) false false d n) e
    ∙ ap (λ (gs : List GivenFrame). context_with s (fresh_name s.fresh) (map seen_frame gs) false false d n) (reverse_one s.frames.items f)
    ∙ ap (λ (ns : Names). context_with s (fresh_name s.fresh) (record {
      names = map sorted_name ns;
      inside = f.inside;
      choice =
          f.choice;
    } ∷ fs) false false d n) h
    ∙ ap (λ ns. context_with s (fresh_name s.fresh) (record { names = ns; inside = f.inside; choice = f.choice } ∷ fs) false false d n)
    (turn_sorted t)
    ∙ ap (λ (b : Bool). context_with s (fresh_name s.fresh) (record {
      names = with_name (turn_name t) ALoop [];
      inside = b;
      choice =
          f.choice;
    } ∷ fs) false false d n) (i d n)
    ∙ ap (λ (b : Bool). context_with s (fresh_name s.fresh) (record {
      names = with_name (turn_name t) ALoop [];
      inside =
          inside (context_of s d n) || s.target;
      choice = b;
    } ∷ fs) false false d n) (k d n)

-- ---- a name more

names_one_more : (f f' : GivenFrame) (x : Name) → f'.names.items ≡ f.names.items ++ x ∷ [] →
    names_in f' ≡ seen_name x ∷ names_in f
names_one_more f f' x e = ap (λ (ns : List Name). map seen_name (reverse ns)) e
    ∙ ap (λ (ns : List Name). map seen_name ns) (reverse_one f.names.items x)

last_is : (xs : List GivenFrame) (k : ℕ) (f : GivenFrame) → k + 1 ≡ length xs → f ≡ get_or xs k f →
    reverse xs ≡ f ∷ reverse (take k xs)
last_is xs k f h e = reverse_last xs k f h ∙ ap (λ (g : GivenFrame). g ∷ reverse (take k xs)) (sym e)

pub declared_is : (s : Scope) (k : ℕ) (f f' : GivenFrame) (x : Name) → k + 1 ≡ length s.frames.items →
    f ≡ get_or s.frames.items k f → f'.names.items ≡ f.names.items ++ x ∷ [] → f'.inside ≡ f.inside →
    f'.choice ≡ f.choice → (d n : ℕ) → context_with s None (map seen_frame (reverse (set s.frames.items k f'))) s.target
    s.choice d n ≡ declared (sort_of_meaning x.meaning) (record (context_of s d n) { fresh = Some x.text.now })
declared_is s k f f' x h e a i j d n =
    let rest = map seen_frame (reverse (take k s.frames.items)) in
    ap (λ (gs : List GivenFrame). context_with s None (map seen_frame gs) s.target s.choice d n)
    (reverse_set s.frames.items k f' h)
    ∙ ap (λ (ns : Names). context_with s None (record {
      names = map sorted_name ns;
      inside = f'.inside;
      choice =
          f'.choice;
    } ∷ rest) s.target s.choice d n) (names_one_more f f' x a)
    ∙ ap (λ (b : Bool). context_with s None (record {
      names = map sorted_name (seen_name x ∷ names_in f);
      inside = b;
      choice = f'.choice;
    } ∷ rest) s.target s.choice d n) i
    ∙ ap (λ (b : Bool). context_with s None (record {
      names = map sorted_name (seen_name x ∷ names_in f);
      inside =
          f.inside;
      choice = b;
    } ∷ rest) s.target s.choice d n) j
    ∙ ap (λ (gs : List GivenFrame). declared (sort_of_meaning x.meaning)
    (record (context_with s None (map seen_frame gs) s.target s.choice d n) { fresh = Some x.text.now }))
    (sym (last_is s.frames.items k f h e))

pub names_declared : (xs : List GivenFrame) (k : ℕ) (f f' : GivenFrame) (x : Name) → k + 1 ≡ length xs →
    f ≡ get_or xs k f → f'.names.items ≡ f.names.items ++ x ∷ [] →
    flat_map names_in (reverse (set xs k f')) ≡ seen_name x ∷ flat_map names_in (reverse xs)
names_declared xs k f f' x h e a =
    ap (λ (gs : List GivenFrame). flat_map names_in gs) (reverse_set xs k f' h)
    ∙ ap (λ (ns : Names). ns ++ flat_map names_in (reverse (take k xs))) (names_one_more f f' x a)
    ∙ ap (λ (gs : List GivenFrame). seen_name x ∷ flat_map names_in gs) (sym (last_is xs k f h e))

-- ---- the same names

pub same_frames : (s : Scope) (k : ℕ) (f f' : GivenFrame) → k + 1 ≡ length s.frames.items →
    f ≡ get_or s.frames.items k f → f'.names.items ≡ f.names.items → f'.inside ≡ f.inside → f'.choice ≡ f.choice →
    (d n : ℕ) → context_with s (fresh_name s.fresh) (map seen_frame (reverse (set s.frames.items k f'))) s.target s.choice d n ≡
    context_of s d n
same_frames s k f f' h e a i j d n =
    let rest = map seen_frame (reverse (take k s.frames.items)) in
    ap (λ (gs : List GivenFrame). context_with s (fresh_name s.fresh) (map seen_frame gs) s.target s.choice d n)
    (reverse_set s.frames.items k f' h)
    ∙ ap (λ (ns : List Name). context_with s (fresh_name s.fresh) (record {
      names = map sorted_name (map seen_name (reverse ns));
      inside = f'.inside;
      choice = f'.choice;
    } ∷ rest) s.target s.choice d n) a
    ∙ ap (λ (b : Bool). context_with s (fresh_name s.fresh) (record {
      names = map sorted_name (names_in f);
      inside = b;
      choice =
          f'.choice;
    } ∷ rest) s.target s.choice d n) i
    ∙ ap (λ (b : Bool). context_with s (fresh_name s.fresh) (record {
      names = map sorted_name (names_in f);
      inside = f.inside;
      choice =
          b;
    } ∷ rest) s.target s.choice d n) j
    ∙ ap (λ (gs : List GivenFrame). context_with s (fresh_name s.fresh) (map seen_frame gs) s.target s.choice d n)
    (sym (last_is s.frames.items k f h e))

pub same_names : (xs : List GivenFrame) (k : ℕ) (f f' : GivenFrame) → k + 1 ≡ length xs → f ≡ get_or xs k f →
    f'.names.items ≡ f.names.items → flat_map names_in (reverse (set xs k f')) ≡ flat_map names_in (reverse xs)
same_names xs k f f' h e a =
    ap (λ (gs : List GivenFrame). flat_map names_in gs) (reverse_set xs k f' h)
    ∙ ap (λ (ns : List Name). map seen_name (reverse ns) ++ flat_map names_in (reverse (take k xs))) a
    ∙ ap (λ (gs : List GivenFrame). flat_map names_in gs) (sym (last_is xs k f h e))

pub last_place : (n len m : ℕ) (b : Bool) → b ≡ eqb len 0 → b ≡ false → n ≡ len → m ≡ len → n - 1 + 1 ≡ m
last_place n len m b e f g h = (let some : 0 < len = grind (arith, nat_tests) in omega arith)

pub on_err : {X E : Type 0} (r : Result X E) (P : Type 0) → P → OnErr r P
on_err (Ok x) P h = tt
on_err (Err e) P h = h
