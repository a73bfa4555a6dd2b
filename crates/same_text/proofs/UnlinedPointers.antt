-- Global pointers get their cells without a look at the lines of the tokens.
use Rattle.std.proofs.Common.{◌≡◌, ◌∙◌, ℕ, zero, suc, ◌+◌, Bool, true, false, cond, List, [], ◌∷◌, ◌++◌, map, Option, Some, None, refl, ap}
use Rattle.std.specs.Prelude.{◌&&◌, ◌||◌, ◌==◌, is_some, not}
use Rattle.std.specs.Str.{bytes_eq}
use Rattle.c_tokens.specs.declared.kind.Sign.TheVariants as sign
use Rattle.c_grammar.specs.Lexeme.{Uint64}
use Rattle.c_grammar.specs.Terminal.{Terminal, Fixed, Mark, Name, Num, Line, Unknown, Unworked, End, same}
use Rattle.c_grammar.specs.Texts.{Item}
use Rattle.c_grammar.specs.Blocks.{Items, at, bare, is_directive}
use Rattle.c_grammar.specs.Allocations.{Allocation, Cells, allocates, begins_main, depth_behind, freed, is_boundary}
use Rattle.c_grammar.specs.Constants.{Names, is_among, is_mark}
use Rattle.c_grammar.specs.Counters.{is_set}
use Rattle.c_grammar.specs.Presence.{guarded}
use Rattle.c_grammar.specs.Pointers.{Found, Onward, Put, State, allocate, allocation_at, array_at, array_named, array_put, arrays, arrays_among, assign_at, at_global, at_statement, begin, behind, cells_for, cells_of, declare_at, declare_first, empty_block, found, global_put, is_array, is_given, is_let_go, is_pointer, noted, nothing_found, pointed, pointed_in, pointed_on, put_at, put_on, rest_len, statement_put, with_allocation, with_assigned, with_found, with_pointer}
use Rattle.same_text.specs.Laws.{unlined}
use Rattle.same_text.proofs.Unlined.{AreUnlined, all_unlined, bare_unlined, either, one, some}
use Rattle.same_text.proofs.UnlinedAllocations.{allocates_same, allocation_unlined, array_unlined, cells_unlined, freed_same, main_same}
use Rattle.same_text.proofs.UnlinedPresence.{guarded_unlined}

-- ---- where a token stands

behind_same : (i : Item Terminal) (is : Items) (s : State) → behind (unlined i) (all_unlined is) s ≡ behind i is s
behind_same i is s =
    ap (λ (b : Bool). record { depth = depth_behind i.terminal s.depth; inside = s.inside || b; starts = is_boundary i.terminal })
    (main_same i is)

-- ---- the pointers

abbrev found_unlined : Found → Found
found_unlined f = record f { allocated = map array_unlined f.allocated }

pointer_same : (t : Item Terminal) (is : Items) → is_pointer (unlined t) (all_unlined is) ≡ is_pointer t is
pointer_same t [] = refl
pointer_same t (s ∷ []) = refl
pointer_same t (s ∷ x ∷ []) = refl
pointer_same t (s ∷ x ∷ e ∷ is) = refl

chosen_found : (b : Bool) (f g f' g' : Found) → f' ≡ found_unlined f → g' ≡ found_unlined g →
    cond b f' g' ≡ found_unlined (cond b f g)
chosen_found true f g f' g' e h = e
chosen_found false f g f' g' e h = h

declare_same : (t : Terminal) (f : Found) → declare_at t (found_unlined f) ≡ found_unlined (declare_at t f)
declare_same (Name x) f = chosen_found (is_among f.declared x) _ _ _ _ refl refl
declare_same (Fixed w) f = refl
declare_same (Mark s) f = refl
declare_same (Num n) f = refl
declare_same (Line ts) f = refl
declare_same Unknown f = refl
declare_same Unworked f = refl
declare_same End f = refl

first_same : (is : Items) (f : Found) → declare_first (all_unlined is) (found_unlined f) ≡ found_unlined (declare_first is f)
first_same [] f = refl
first_same (s ∷ []) f = refl
first_same (s ∷ x ∷ is) f = declare_same x.terminal f

with_pointer_same : (s : State) (i : Item Terminal) (is : Items) (f : Found) →
    with_pointer s (unlined i) (all_unlined is) (found_unlined f) ≡ found_unlined (with_pointer s i is f)
with_pointer_same s i is f =
    ap (λ (b : Bool). cond (at_global s && b) (declare_first (all_unlined is) (found_unlined f)) (found_unlined f))
    (pointer_same i is)
    ∙ chosen_found (at_global s && is_pointer i is) _ f _ (found_unlined f) (first_same is f) refl

allocation_same : (i : Item Terminal) (is : Items) →
    allocation_at (unlined i) (all_unlined is) ≡ allocation_unlined (allocation_at i is)
allocation_same i [] = refl
allocation_same i (e ∷ is) = go (is_mark sign.Equal e) (allocates_same i i.terminal is)
  where
    go : (b : Bool) → allocates (unlined i) i.terminal (all_unlined is) ≡ allocation_unlined (allocates i i.terminal is) →
        cond b (allocates (unlined i) i.terminal (all_unlined is)) None ≡
        allocation_unlined (cond b (allocates i i.terminal is) None)
    go true h = h
    go false h = refl

map_more : (ls : List Allocation) (a : Allocation) →
    map array_unlined ls ++ array_unlined a ∷ [] ≡ map array_unlined (ls ++ a ∷ [])
map_more [] a = refl
map_more (b ∷ ls) a = ap (λ (ms : List Allocation). array_unlined b ∷ ms) (map_more ls a)

allocate_same : (o : Option Allocation) (f : Found) →
    allocate (allocation_unlined o) (found_unlined f) ≡ found_unlined (allocate o f)
allocate_same None f = refl
allocate_same (Some a) f = ap (λ (ls : List Allocation). record f { allocated = ls }) (map_more f.allocated a)

with_allocation_same : (s : State) (i : Item Terminal) (is : Items) (f : Found) →
    with_allocation s (unlined i) (all_unlined is) (found_unlined f) ≡ found_unlined (with_allocation s i is f)
with_allocation_same s i is f =
    chosen_found (at_statement s) _ f _ (found_unlined f)
    (ap (λ (o : Option Allocation). allocate o (found_unlined f)) (allocation_same i is) ∙ allocate_same (allocation_at i is) f)
    refl

set_same : (is : Items) → is_set (all_unlined is) ≡ is_set is
set_same [] = refl
set_same (e ∷ is) = refl

assign_same : (t : Terminal) (f : Found) → assign_at t (found_unlined f) ≡ found_unlined (assign_at t f)
assign_same (Name x) f = chosen_found (is_among f.assigned x) _ _ _ _ refl refl
assign_same (Fixed w) f = refl
assign_same (Mark s) f = refl
assign_same (Num n) f = refl
assign_same (Line ts) f = refl
assign_same Unknown f = refl
assign_same Unworked f = refl
assign_same End f = refl

with_assigned_same : (i : Item Terminal) (is : Items) (f : Found) →
    with_assigned (unlined i) (all_unlined is) (found_unlined f) ≡ found_unlined (with_assigned i is f)
with_assigned_same i is f =
    ap (λ (b : Bool). cond b (assign_at i.terminal (found_unlined f)) (found_unlined f)) (set_same is)
    ∙ chosen_found (is_set is) _ f _ (found_unlined f) (assign_same i.terminal f) refl

noted_same : (s : State) (i : Item Terminal) (is : Items) (f : Found) →
    noted s (unlined i) (all_unlined is) (found_unlined f) ≡ found_unlined (noted s i is f)
noted_same s i is f =
    let g : Found = with_pointer s i is f in
    ap (λ (h : Found). with_assigned (unlined i) (all_unlined is) (with_allocation s (unlined i) (all_unlined is) h))
    (with_pointer_same s i is f)
    ∙ ap (with_assigned (unlined i) (all_unlined is)) (with_allocation_same s i is g)
    ∙ with_assigned_same i is (with_allocation s i is g)

found_same : (is : Items) (s : State) (f : Found) → found s (found_unlined f) (all_unlined is) ≡ found_unlined (found s f is)
found_same [] s f = refl
found_same (i ∷ is) s f =
    ap (λ (t : State). found t (noted s (unlined i) (all_unlined is) (found_unlined f)) (all_unlined is)) (behind_same i is s)
    ∙ ap (λ (g : Found). found (behind i is s) g (all_unlined is)) (noted_same s i is f)
    ∙ found_same is (behind i is s) (noted s i is f)

-- ---- which of them are arrays

of_same : (ls : List Allocation) (x : List ℕ) → cells_of (map array_unlined ls) x ≡ cells_unlined (cells_of ls x)
of_same [] x = refl
of_same (a ∷ ls) x = go (bytes_eq a.name x) (of_same ls x)
  where
    go : (b : Bool) → cells_of (map array_unlined ls) x ≡ cells_unlined (cells_of ls x) →
        cond b (Some (array_unlined a).cells) (cells_of (map array_unlined ls) x) ≡
        cells_unlined (cond b (Some a.cells) (cells_of ls x))
    go true e = refl
    go false e = e

for_same : (f : Found) (x : List ℕ) → cells_for (found_unlined f) x ≡ cells_unlined (cells_for f x)
for_same f x = go (is_among f.declared x && not (is_among f.spoiled x)) (of_same f.allocated x)
  where
    go : (b : Bool) → cells_of (map array_unlined f.allocated) x ≡ cells_unlined (cells_of f.allocated x) →
        cond b (cells_of (map array_unlined f.allocated) x) None ≡ cells_unlined (cond b (cells_of f.allocated x) None)
    go true e = e
    go false e = refl

has_same : (o : Option Cells) → is_some (cells_unlined o) ≡ is_some o
has_same None = refl
has_same (Some c) = refl

array_same : (f : Found) (x : List ℕ) → is_array (found_unlined f) x ≡ is_array f x
array_same f x = ap is_some (for_same f x) ∙ has_same (cells_for f x)

among_same : (f : Found) (xs : Names) → arrays_among (found_unlined f) xs ≡ arrays_among f xs
among_same f [] = refl
among_same f (x ∷ xs) =
    ap (λ (b : Bool). cond b (x ∷ arrays_among (found_unlined f) xs) (arrays_among (found_unlined f) xs)) (array_same f x)
    ∙ ap (λ (ys : Names). cond (is_array f x) (x ∷ ys) ys) (among_same f xs)

arrays_same : (f : Found) → arrays (found_unlined f) ≡ arrays f
arrays_same f = among_same f f.declared

-- ---- the tokens

abbrev put_unlined : Option Put → Option Put
put_unlined None = None
put_unlined (Some p) = Some (record { items = all_unlined p.items; len = p.len })

chosen_same : (b c : Bool) (o p o' p' : Option Put) → c ≡ b → o' ≡ put_unlined o → p' ≡ put_unlined p →
    cond c o' p' ≡ put_unlined (cond b o p)
chosen_same true c o p o' p' e g h = ap (λ (d : Bool). cond d o' p') e ∙ g
chosen_same false c o p o' p' e g h = ap (λ (d : Bool). cond d o' p') e ∙ h

cells_put_same : (i x : Item Terminal) (y : List ℕ) (o : Option Cells) →
    array_put (unlined i) (unlined x) y (cells_unlined o) ≡ put_unlined (array_put i x y o)
cells_put_same i x y None = refl
cells_put_same i x y (Some c) = refl

named_put_same : (f : Found) (i x : Item Terminal) (t : Terminal) →
    array_named (found_unlined f) (unlined i) (unlined x) t ≡ put_unlined (array_named f i x t)
named_put_same f i x (Name y) =
    ap (array_put (unlined i) (unlined x) y) (for_same f y) ∙ cells_put_same i x y (cells_for f y)
named_put_same f i x (Fixed w) = refl
named_put_same f i x (Mark s) = refl
named_put_same f i x (Num n) = refl
named_put_same f i x (Line ts) = refl
named_put_same f i x Unknown = refl
named_put_same f i x Unworked = refl
named_put_same f i x End = refl

at_same : (f : Found) (i : Item Terminal) (is : Items) →
    array_at (found_unlined f) (unlined i) (all_unlined is) ≡ put_unlined (array_at f i is)
at_same f i [] = refl
at_same f i (s ∷ []) = refl
at_same f i (s ∷ x ∷ is) = named_put_same f i x x.terminal

global_same : (f : Found) (i : Item Terminal) (is : Items) →
    global_put (found_unlined f) (unlined i) (all_unlined is) ≡ put_unlined (global_put f i is)
global_same f i is = chosen_same (is_pointer i is) _ _ None _ None (pointer_same i is) (at_same f i is) refl

rest_same : (n : ℕ) (is : Items) → rest_len n (all_unlined is) ≡ rest_len n is
rest_same n [] = refl
rest_same n (i ∷ is) = ap (λ (k : ℕ). cond (is_mark sign.Semicolon i) (n + 1) k) (rest_same (n + 1) is)

given_same : (f : Found) (o : Option Allocation) → is_given (found_unlined f) (allocation_unlined o) ≡ is_given f o
given_same f None = refl
given_same f (Some a) = array_same f a.name

go_same : (f : Found) (o : Option (List ℕ)) → is_let_go (found_unlined f) o ≡ is_let_go f o
go_same f None = refl
go_same f (Some x) = array_same f x

block_same : (i : Item Terminal) (is : Items) → Some (empty_block (unlined i) (all_unlined is)) ≡ put_unlined (Some (empty_block i is))
block_same i is =
    ap (λ (n : ℕ). Some (record { items = all_unlined (empty_block i is).items; len = n })) (rest_same 0 is)

statement_same : (f : Found) (i : Item Terminal) (is : Items) →
    statement_put (found_unlined f) (unlined i) (all_unlined is) ≡ put_unlined (statement_put f i is)
statement_same f i is =
    chosen_same (is_given f (allocation_at i is) || is_let_go f (freed i is)) _ _ None _ None
    (ap (λ (b : Bool). b || is_let_go (found_unlined f) (freed (unlined i) (all_unlined is)))
    (ap (is_given (found_unlined f)) (allocation_same i is) ∙ given_same f (allocation_at i is))
    ∙ ap (λ (b : Bool). is_given f (allocation_at i is) || b)
    (ap (is_let_go (found_unlined f)) (freed_same i is) ∙ go_same f (freed i is)))
    (block_same i is) refl

put_same : (f : Found) (s : State) (i : Item Terminal) (is : Items) →
    put_at (found_unlined f) s (unlined i) (all_unlined is) ≡ put_unlined (put_at f s i is)
put_same f s i is =
    chosen_same (at_global s) _ _ _ _ _ refl (global_same f i is)
    (chosen_same (at_statement s) _ _ None _ None refl (statement_same f i is) refl)

abbrev GoesSame : Onward → Onward → Type 0
GoesSame go' go = (s : State) (k : ℕ) → AreUnlined (go' s k) (go s k)

put_on_same : (s : State) (i : Item Terminal) (is : Items) (o : Option Put) (go go' : Onward) → GoesSame go' go →
    AreUnlined (put_on s (unlined i) (all_unlined is) (put_unlined o) go') (put_on s i is o go)
put_on_same s i is None go go' r =
    one i (go (behind i is s) 0) _ (ap (λ (t : State). go' t 0) (behind_same i is s) ∙ r (behind i is s) 0)
put_on_same s i is (Some p) go go' r = some p.items (all_unlined p.items) _ _ refl (r s p.len)

on_same : (k : ℕ) (f : Found) (s : State) (i : Item Terminal) (is : Items) (go go' : Onward) → GoesSame go' go →
    AreUnlined (pointed_on (found_unlined f) s k (unlined i) (all_unlined is) go') (pointed_on f s k i is go)
on_same zero f s i is go go' r =
    ap (λ (o : Option Put). put_on s (unlined i) (all_unlined is) o go') (put_same f s i is)
    ∙ put_on_same s i is (put_at f s i is) go go' r
on_same (suc k) f s i is go go' r = r s k

in_same : (is : Items) (f : Found) (s : State) (k : ℕ) →
    AreUnlined (pointed_in (found_unlined f) s k (all_unlined is)) (pointed_in f s k is)
in_same [] f s k = refl
in_same (i ∷ is) f s k = step (is_directive i.terminal) (λ s k. in_same is f s k)
  where
    next : State → ℕ → Items
    next s k = pointed_in (found_unlined f) s k (all_unlined is)

    step : (t : Bool) → GoesSame next (λ s k. pointed_in f s k is) →
        AreUnlined
        (cond t (unlined i ∷ next s k) (pointed_on (found_unlined f) s k (unlined i) (bare (all_unlined is)) next))
        (cond t (i ∷ pointed_in f s k is) (pointed_on f s k i (bare is) (λ s k. pointed_in f s k is)))
    step true ih = one i (pointed_in f s k is) (next s k) (ih s k)
    step false ih =
        ap (λ (js : Items). pointed_on (found_unlined f) s k (unlined i) js next) (bare_unlined is)
        ∙ on_same k f s i (bare is) (λ s k. pointed_in f s k is) next ih

pub pointed_unlined : (is : Items) → AreUnlined (pointed (all_unlined is)) (pointed is)
pointed_unlined is =
    let f : Found = found begin nothing_found (bare is) in
    ap (λ (g : Found). with_found g (all_unlined is))
    (ap (found begin nothing_found) (bare_unlined is) ∙ found_same (bare is) begin nothing_found)
    ∙ ap (λ (xs : Names). guarded xs (pointed_in (found_unlined f) begin 0 (all_unlined is))) (arrays_same f)
    ∙ ap (guarded (arrays f)) (in_same is f begin 0) ∙ guarded_unlined (arrays f) (pointed_in f begin 0 is)
