-- Arrays are allocated without a look at the lines of the tokens.
use Rattle.std.proofs.Common.{◌≡◌, ℕ, Bool, true, false, cond, List, [], ◌∷◌, ◌++◌, length, Option, Some, None, refl, ap, ◌∙◌}
use Rattle.std.specs.Prelude.{◌&&◌, ◌||◌, not, nat_lt, reverse, codes}
use Rattle.c_tokens.specs.declared.kind.Sign.{Sign}
use Rattle.c_tokens.specs.declared.kind.Sign.TheVariants as sign
use Rattle.c_grammar.specs.Lexeme.{Uint64}
use Rattle.c_grammar.specs.Terminal.{Terminal, Fixed, Mark, Name, Num, Line, Unknown, Unworked, End, same}
use Rattle.c_grammar.specs.Texts.{Item}
use Rattle.c_grammar.specs.Blocks.{Items, at, is_directive, bare}
use Rattle.c_grammar.specs.Constants.{Names, is_among, is_mark, malloc_word, calloc_word}
use Rattle.c_grammar.specs.Initial.{value_of}
use Rattle.c_grammar.specs.Allocations.{guarded_reading, skipped, either, type_size, cell_size, open_size, behind_size, ends_call, is_ended, times, counted_on, counted, numbered_on, numbered, numbered_behind, first_number, product, Cells, told, asked, called, cast, or_all, Allocation, with_cells, allocates, allocation, declaration, is_named, freed_name, freed, is_one, is_freed, Reading, nothing_read, passed, kept, entered, opened, closed, allotted, max_arrays, given_up, is_allowed, by_allocation, begins_main, at_statement, taken, next, all_read, joined, allocated}
use Rattle.same_text.specs.Laws.{unlined}
use Rattle.c_grammar.specs.Presence.{guarded}
use Rattle.same_text.proofs.UnlinedPresence.{guarded_unlined}
use Rattle.same_text.proofs.Unlined.{all_unlined, bare_unlined}

-- ---- sizes

abbrev pub rest_unlined : Option Items → Option Items
rest_unlined None = None
rest_unlined (Some is) = Some (all_unlined is)

skipped_same : (ts : List Terminal) (is : Items) → skipped ts (all_unlined is) ≡ rest_unlined (skipped ts is)
skipped_same [] is = refl
skipped_same (t ∷ ts) [] = refl
skipped_same (t ∷ ts) (i ∷ is) = go (same t i.terminal) (skipped_same ts is)
  where
    go : (b : Bool) → skipped ts (all_unlined is) ≡ rest_unlined (skipped ts is) →
        cond b (skipped ts (all_unlined is)) None ≡ rest_unlined (cond b (skipped ts is) None)
    go true e = e
    go false e = refl

either_same : (o p : Option Items) → either (rest_unlined o) (rest_unlined p) ≡ rest_unlined (either o p)
either_same (Some is) p = refl
either_same None p = refl

size_same : (x : List ℕ) (is : Items) → behind_size x (all_unlined is) ≡ rest_unlined (behind_size x is)
size_same x is =
    let p : Option Items = skipped (cell_size x) is in
    let q : Option Items = skipped (open_size x) is in
    ap (λ (o : Option Items). either o (either (skipped (cell_size x) (all_unlined is)) (skipped (open_size x) (all_unlined is))))
    (skipped_same type_size is)
    ∙ ap (λ (o : Option Items). either (rest_unlined (skipped type_size is)) (either o (skipped (open_size x) (all_unlined is))))
    (skipped_same (cell_size x) is)
    ∙ ap (λ (o : Option Items). either (rest_unlined (skipped type_size is)) (either (rest_unlined p) o)) (skipped_same (open_size x) is)
    ∙ ap (λ (o : Option Items). either (rest_unlined (skipped type_size is)) o) (either_same p q)
    ∙ either_same (skipped type_size is) (either p q)

ends_same : (is : Items) → ends_call (all_unlined is) ≡ ends_call is
ends_same [] = refl
ends_same (b ∷ []) = refl
ends_same (b ∷ s ∷ is) = refl

ended_same : (o : Option Items) → is_ended (rest_unlined o) ≡ is_ended o
ended_same None = refl
ended_same (Some is) = ends_same is

size_ended_same : (x : List ℕ) (is : Items) → is_ended (behind_size x (all_unlined is)) ≡ is_ended (behind_size x is)
size_ended_same x is = ap is_ended (size_same x is) ∙ ended_same (behind_size x is)

-- ---- numbers of cells

counted_on_same : (x : List ℕ) (last : Sign) (s : Item Terminal) (is : Items) (o : Option ℕ) (go go' : ℕ → Option ℕ) →
    ((w : ℕ) → go' w ≡ go w) → counted_on x last (unlined s) (all_unlined is) o go' ≡ counted_on x last s is o go
counted_on_same x last s is None go go' r = refl
counted_on_same x last s is (Some v) go go' r =
    ap (λ (b : Bool). cond (is_mark last s && b) (Some v) (cond (is_mark sign.Star s) (go' v) None)) (size_ended_same x is)
    ∙ ap (λ (o : Option ℕ). cond (is_mark last s && is_ended (behind_size x is)) (Some v) (cond (is_mark sign.Star s) o None)) (r v)

counted_same : (x : List ℕ) (last : Sign) (v : ℕ) (is : Items) → counted x last v (all_unlined is) ≡ counted x last v is
counted_same x last v [] = refl
counted_same x last v (n ∷ []) = refl
counted_same x last v (n ∷ s ∷ is) =
    counted_on_same x last s is (times v (value_of n.terminal)) (λ w. counted x last w is)
    (λ w. counted x last w (all_unlined is)) (λ w. counted_same x last w is)

numbered_on_same : (is : Items) (o : Option ℕ) (go go' : ℕ → Option ℕ) → ((w : ℕ) → go' w ≡ go w) →
    numbered_on (all_unlined is) o go' ≡ numbered_on is o go
numbered_on_same is None go go' r = refl
numbered_on_same is (Some v) go go' r =
    ap (λ (b : Bool). cond b (Some v) (go' v)) (ends_same is) ∙ ap (λ (o : Option ℕ). cond (ends_call is) (Some v) o) (r v)

numbered_same : (v : ℕ) (is : Items) → numbered v (all_unlined is) ≡ numbered v is
numbered_same v [] = refl
numbered_same v (s ∷ []) = refl
numbered_same v (s ∷ n ∷ is) =
    ap (λ (o : Option ℕ). cond (is_mark sign.Star s) o None)
    (numbered_on_same is (times v (value_of n.terminal)) (λ w. numbered w is) (λ w. numbered w (all_unlined is))
    (λ w. numbered_same w is))

behind_same : (o : Option Items) → numbered_behind (rest_unlined o) ≡ numbered_behind o
behind_same None = refl
behind_same (Some is) = numbered_same 1 is

product_same : (x : List ℕ) (is : Items) → product x (all_unlined is) ≡ product x is
product_same x is =
    ap (λ (o : Option ℕ). first_number o (numbered_behind (behind_size x (all_unlined is)))) (counted_same x sign.Star 1 is)
    ∙ ap (λ (o : Option ℕ). first_number (counted x sign.Star 1 is) o)
    (ap numbered_behind (size_same x is) ∙ behind_same (behind_size x is))

-- ---- allocations

abbrev pub cells_unlined : Option Cells → Option Cells
cells_unlined None = None
cells_unlined (Some c) = Some (record { place = unlined c.place; number = c.number })

told_same : (is : Items) (o : Option ℕ) → told (all_unlined is) o ≡ cells_unlined (told is o)
told_same [] o = refl
told_same (i ∷ is) None = refl
told_same (i ∷ is) (Some n) = refl

asked_same : (x : List ℕ) (o p : Option Items) → asked x (rest_unlined o) (rest_unlined p) ≡ cells_unlined (asked x o p)
asked_same x (Some is) p = ap (told (all_unlined is)) (product_same x is) ∙ told_same is (product x is)
asked_same x None (Some is) = ap (told (all_unlined is)) (counted_same x sign.Comma 1 is) ∙ told_same is (counted x sign.Comma 1 is)
asked_same x None None = refl

abbrev by_malloc : List Terminal
by_malloc = malloc_word ∷ Mark sign.OpenParen ∷ []

abbrev by_calloc : List Terminal
by_calloc = calloc_word ∷ Mark sign.OpenParen ∷ []

called_same : (x : List ℕ) (is : Items) → called x (all_unlined is) ≡ cells_unlined (called x is)
called_same x is =
    ap (λ (o : Option Items). asked x o (skipped by_calloc (all_unlined is))) (skipped_same by_malloc is)
    ∙ ap (λ (o : Option Items). asked x (rest_unlined (skipped by_malloc is)) o) (skipped_same by_calloc is)
    ∙ asked_same x (skipped by_malloc is) (skipped by_calloc is)

all_same : (o : Option Items) (is : Items) → or_all (rest_unlined o) (all_unlined is) ≡ all_unlined (or_all o is)
all_same None is = refl
all_same (Some js) is = refl

behind_cast_same : (x : List ℕ) (is : Items) →
    called x (or_all (skipped cast (all_unlined is)) (all_unlined is)) ≡ cells_unlined (called x (or_all (skipped cast is) is))
behind_cast_same x is =
    ap (called x) (ap (λ (o : Option Items). or_all o (all_unlined is)) (skipped_same cast is) ∙ all_same (skipped cast is) is)
    ∙ called_same x (or_all (skipped cast is) is)

abbrev pub array_unlined : Allocation → Allocation
array_unlined a = record {
  name = a.name;
  named = unlined a.named;
  cells = record { place = unlined a.cells.place; number = a.cells.number };
}

abbrev pub allocation_unlined : Option Allocation → Option Allocation
allocation_unlined None = None
allocation_unlined (Some a) = Some (array_unlined a)

cells_same : (x : List ℕ) (i : Item Terminal) (o : Option Cells) →
    with_cells x (unlined i) (cells_unlined o) ≡ allocation_unlined (with_cells x i o)
cells_same x i None = refl
cells_same x i (Some c) = refl

pub allocates_same : (i : Item Terminal) (t : Terminal) (is : Items) →
    allocates (unlined i) t (all_unlined is) ≡ allocation_unlined (allocates i t is)
allocates_same i (Name x) is =
    ap (with_cells x (unlined i)) (behind_cast_same x is) ∙ cells_same x i (called x (or_all (skipped cast is) is))
allocates_same i (Fixed w) is = refl
allocates_same i (Mark m) is = refl
allocates_same i (Num n) is = refl
allocates_same i (Line ts) is = refl
allocates_same i Unknown is = refl
allocates_same i Unworked is = refl
allocates_same i End is = refl

allocation_same : (t : Item Terminal) (is : Items) →
    allocation (unlined t) (all_unlined is) ≡ allocation_unlined (allocation t is)
allocation_same t [] = refl
allocation_same t (s ∷ []) = refl
allocation_same t (s ∷ x ∷ []) = refl
allocation_same t (s ∷ x ∷ e ∷ is) =
    go (same (Fixed Uint64) t.terminal && is_mark sign.Star s && is_mark sign.Equal e) (allocates_same x x.terminal is)
  where
    go : (b : Bool) → allocates (unlined x) x.terminal (all_unlined is) ≡ allocation_unlined (allocates x x.terminal is) →
        cond b (allocates (unlined x) x.terminal (all_unlined is)) None
        ≡ allocation_unlined (cond b (allocates x x.terminal is) None)
    go true e = e
    go false e = refl

-- ---- free

pub named_same : (x : List ℕ) (is : Items) → is_named x (all_unlined is) ≡ is_named x is
named_same x [] = refl
named_same x (i ∷ is) = ap (λ (b : Bool). same (Name x) i.terminal || b) (named_same x is)

freed_name_same : (t : Terminal) (is : Items) → freed_name t (all_unlined is) ≡ freed_name t is
freed_name_same (Name x) is = ap (λ (b : Bool). cond b None (Some x)) (named_same x is)
freed_name_same (Fixed w) is = refl
freed_name_same (Mark m) is = refl
freed_name_same (Num n) is = refl
freed_name_same (Line ts) is = refl
freed_name_same Unknown is = refl
freed_name_same Unworked is = refl
freed_name_same End is = refl

pub freed_same : (f : Item Terminal) (is : Items) → freed (unlined f) (all_unlined is) ≡ freed f is
freed_same f [] = refl
freed_same f (o ∷ []) = refl
freed_same f (o ∷ x ∷ []) = refl
freed_same f (o ∷ x ∷ b ∷ []) = refl
freed_same f (o ∷ x ∷ b ∷ s ∷ is) =
    ap (λ (n : Option (List ℕ)). cond
    (same (Name (codes "free")) f.terminal && is_mark sign.OpenParen o && ends_call (b ∷ s ∷ is)) n None)
    (freed_name_same x.terminal is)

is_freed_same : (names : Names) (f : Item Terminal) (is : Items) →
    is_freed names (unlined f) (all_unlined is) ≡ is_freed names f is
is_freed_same names f is = ap (is_one names) (freed_same f is)

-- ---- all tokens

pub both_unlined : (is js : Items) → all_unlined is ++ all_unlined js ≡ all_unlined (is ++ js)
both_unlined [] js = refl
both_unlined (i ∷ is) js = ap (λ (v : Items). unlined i ∷ v) (both_unlined is js)

abbrev pub reading_unlined : Reading → Reading
reading_unlined r = record r { before = all_unlined r.before; arrays = all_unlined r.arrays; done = all_unlined r.done }

-- the first is the second without its lines
abbrev pub IsUnlined : Reading → Reading → Type 0
IsUnlined q r = q ≡ reading_unlined r

pub pick : (b c : Bool) (x y x' y' : Reading) → c ≡ b → IsUnlined x' x → IsUnlined y' y → IsUnlined (cond c x' y') (cond b x y)
pick b c x y x' y' e h k = ap (λ (t : Bool). cond t x' y') e ∙ go b
  where
    go : (t : Bool) → IsUnlined (cond t x' y') (cond t x y)
    go true = h
    go false = k

pub kept_same : (i : Item Terminal) (r : Reading) → IsUnlined (kept (unlined i) (reading_unlined r)) (kept i r)
kept_same i r = ap (λ (d : Items). record (reading_unlined (kept i r)) { done = d }) (both_unlined r.done (i ∷ []))

pub opened_same : (i : Item Terminal) (r : Reading) → IsUnlined (opened (unlined i) (reading_unlined r)) (opened i r)
opened_same i r =
    ap (λ (d : Items). record (reading_unlined (opened i r)) { done = d }) (both_unlined r.done (at i (Mark sign.OpenBrace) ∷ []))

pub closed_same : (i : Item Terminal) (r : Reading) → IsUnlined (closed (unlined i) (reading_unlined r)) (closed i r)
closed_same i r =
    ap (λ (d : Items). record (reading_unlined (closed i r)) { done = d }) (both_unlined r.done (at i (Mark sign.CloseBrace) ∷ []))

pub entered_same : (i : Item Terminal) (r : Reading) → IsUnlined (entered (unlined i) (reading_unlined r)) (entered i r)
entered_same i r =
    ap (λ (d : Items). record (reading_unlined (entered i r)) { before = d }) (both_unlined r.before r.done)

allotted_same : (i : Item Terminal) (a : Allocation) (r : Reading) →
    IsUnlined (allotted (unlined i) (array_unlined a) (reading_unlined r)) (allotted i a r)
allotted_same i a r =
    ap (λ (d : Items). record (allotted (unlined i) (array_unlined a) (reading_unlined r)) { arrays = d })
    (both_unlined r.arrays (declaration i a))
    ∙ opened_same i (record r { arrays = r.arrays ++ declaration i a; names = a.name ∷ r.names })

allowed_same : (a : Allocation) (r : Reading) → is_allowed (array_unlined a) (reading_unlined r) ≡ is_allowed a r
allowed_same a r =
    ap (λ (b : Bool). nat_lt (length r.names) max_arrays && not b)
    (ap (is_named a.name) (bare_unlined r.done) ∙ named_same a.name (bare r.done))

statement_same : (i : Item Terminal) (is : Items) (o : Option Allocation) (r : Reading) →
    IsUnlined (by_allocation (unlined i) (all_unlined is) (allocation_unlined o) (reading_unlined r)) (by_allocation i is o r)
statement_same i is (Some a) r =
    pick (is_allowed a r) _ (allotted i a r) (given_up i r) _ _ (allowed_same a r) (allotted_same i a r)
    (kept_same i (record r { inside = false }))
statement_same i is None r =
    pick (is_freed r.names i is) _ (opened i r) (kept i r) _ _ (is_freed_same r.names i is) (opened_same i r) (kept_same i r)

pub main_same : (i : Item Terminal) (is : Items) → begins_main (unlined i) (all_unlined is) ≡ begins_main i is
main_same i [] = refl
main_same i (m ∷ is) = refl

taken_same : (i : Item Terminal) (is : Items) (r : Reading) →
    IsUnlined (taken (unlined i) (all_unlined is) (reading_unlined r)) (taken i is r)
taken_same i is r =
    pick r.out _ _ _ _ _ refl (pick (is_mark sign.Semicolon i) _ (closed i r) r _ _ refl (closed_same i r) refl)
    (pick (at_statement r) _ _ _ _ _ refl
    (ap (λ (o : Option Allocation). by_allocation (unlined i) (all_unlined is) o (reading_unlined r)) (allocation_same i is)
    ∙ statement_same i is (allocation i is) r)
    (pick (not r.inside && begins_main i is) _ (entered i r) (kept i r) _ _
    (ap (λ (b : Bool). not r.inside && b) (main_same i is)) (entered_same i r) (kept_same i r)))

next_same : (i : Item Terminal) (is : Items) (r : Reading) →
    IsUnlined (next (unlined i) (all_unlined is) (reading_unlined r)) (next i is r)
next_same i is r =
    pick (is_directive i.terminal) _ (passed i r) (taken i (bare is) r) _ _ refl
    (ap (λ (d : Items). record (reading_unlined (passed i r)) { done = d }) (both_unlined r.done (i ∷ [])))
    (ap (λ (js : Items). taken (unlined i) js (reading_unlined r)) (bare_unlined is) ∙ taken_same i (bare is) r)

read_same : (is : Items) (r : Reading) → IsUnlined (all_read (reading_unlined r) (all_unlined is)) (all_read r is)
unfolding all_read
read_same [] r = refl
read_same (i ∷ is) r =
    ap (λ (q : Reading). all_read q (all_unlined is)) (next_same i is r) ∙ read_same is (next i is r)

pub joined_unlined : (r : Reading) → joined (reading_unlined r) ≡ all_unlined (joined r)
joined_unlined r =
    ap (λ (js : Items). all_unlined r.before ++ js) (both_unlined r.arrays r.done)
    ∙ both_unlined r.before (r.arrays ++ r.done)

pub allocated_unlined : (is : Items) → allocated (all_unlined is) ≡ all_unlined (allocated is)
allocated_unlined is =
    let r : Reading = all_read nothing_read is in
    ap guarded_reading (read_same is nothing_read)
    ∙ ap (guarded (reverse r.names)) (joined_unlined r)
    ∙ guarded_unlined (reverse r.names) (joined r)
