-- Items that were noted with their accesses.
use Rattle.std.proofs.Common.{◌≡◌, ℕ, ◌+◌, ◌<◌, Bool, true, false, List, take, get_or, length, refl, sym, ap, ◌∙◌}
use Rattle.std.specs.Prelude.{not, ◌||◌, ◌&&◌}
use Rattle.std.specs.List.{list_any}
use Rattle.std.proofs.lemmas.Bool.{and_parts, or_cases}
use Rattle.std.proofs.lemmas.List.Folds.{list_any_more}
use Rattle.base.specs.declared.item.Cell.{Cell}
use Rattle.base.specs.declared.item.Loc.{Loc}
use Rattle.base.specs.Items.{Plan}
use Rattle.mapcheck.specs.declared.accesses.Access.{Access}
use Rattle.mapcheck.specs.declared.noted.Noted.{Noted}
use Rattle.mapcheck.specs.Accesses.{has_cell, same_loc}
use Rattle.mapcheck.specs.Noted.{IsAccessed, IsSeen, IsTouched, is_accessed}
use Rattle.mapcheck.proofs.Collisions.{loc_same}
use Rattle.mapcheck.proofs.Noting.{seen_both, seen_less}

not_true : (b : Bool) → not b ≡ true → false ≡ b
not_true true e = absurd cc
not_true false e = refl

accessed_parts : (a : Access) (writes : Bool) (loc : Loc) (c : Cell) → is_accessed a writes loc c ≡ true →
    (writes ≡ a.writes) × (loc ≡ a.loc) × (has_cell a.cells c ≡ true)
accessed_parts a true loc c h =
    let both = and_parts (same_loc a.loc loc) (a.writes && has_cell a.cells c) h in
    let rest = and_parts a.writes (has_cell a.cells c) both.1 in
    (sym rest.0, sym (loc_same a.loc loc both.0), rest.1)
accessed_parts a false loc c h =
    let both = and_parts (same_loc a.loc loc) (not a.writes && has_cell a.cells c) h in
    let rest = and_parts (not a.writes) (has_cell a.cells c) both.1 in
    (not_true a.writes rest.0, sym (loc_same a.loc loc both.0), rest.1)

-- an access is that of its cells at its location
pub seen_access : (plan : Plan) (old new : Noted) (a : Access) (j : ℕ) (cells : Cell → Bool) (clear : Bool) →
    ((c : Cell) → has_cell a.cells c ≡ cells c) →
    IsSeen plan old new j (IsTouched (record { item = j; loc = a.loc; writes = a.writes }) cells) clear →
    IsSeen plan old new j (λ w loc c. is_accessed a w loc c ≡ true) clear
seen_access plan old new a j cells clear same h =
    seen_less plan old new j (IsTouched (record { item = j; loc = a.loc; writes = a.writes }) cells)
    (λ w loc c. is_accessed a w loc c ≡ true) clear h
    (λ w loc c is. let parts = accessed_parts a w loc c is in (parts.0, parts.1, sym (same c) ∙ parts.2))

-- one access after the other
pub one_access : (plan : Plan) (old between new : Noted) (j : ℕ) (list : List Access) (i : ℕ) (a : Access) (x y : Bool) →
    i < length list → a ≡ get_or list i a → IsSeen plan old between j (IsAccessed (take i list)) x →
    IsSeen plan between new j (λ w loc c. is_accessed a w loc c ≡ true) y →
    IsSeen plan old new j (IsAccessed (take (i + 1) list)) (x && y)
one_access plan old between new j list i a x y lt is f s =
    seen_both plan old between new j (IsAccessed (take i list)) (λ w loc c. is_accessed a w loc c ≡ true)
    (IsAccessed (take (i + 1) list)) x y f s
    (λ w loc c there. or_cases (list_any (λ b. is_accessed b w loc c) (take i list)) (is_accessed a w loc c)
    (ap (λ b. list_any (λ z. is_accessed z w loc c) (take i list) || is_accessed b w loc c) is
    ∙ sym (list_any_more (λ b. is_accessed b w loc c) list i a lt) ∙ there))
