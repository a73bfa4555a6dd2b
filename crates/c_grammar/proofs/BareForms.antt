-- Writing the tokens out and leaving the directive lines away can be done in any order.
use Rattle.std.proofs.Common.{◌≡◌, ℕ, zero, suc, ◌+◌, Bool, true, false, cond, List, [], ◌∷◌, ◌++◌, Option, Some, None, refl, sym, ap, ◌∙◌}
use Rattle.std.specs.Prelude.{◌&&◌, ◌==◌, nat_le, nat_lt, codes}
use Rattle.c_tokens.specs.declared.kind.Sign.{Sign}
use Rattle.c_tokens.specs.declared.kind.Sign.TheVariants as sign
use Rattle.c_grammar.specs.Lexeme.{Lexeme, Uint64, For, Print, Void}
use Rattle.c_grammar.specs.Terminal.{Terminal, Fixed, Mark, Name, Num, Line, Unknown, Unworked, End, same}
use Rattle.c_grammar.specs.Texts.{Item}
use Rattle.c_grammar.specs.Lines.{is_omp}
use Rattle.c_grammar.specs.Blocks as blocks
use Rattle.c_grammar.specs.Blocks.{Items, is_directive, bare, at, type_at, type_on, longs, typed, Around, Reading, nothing_read, with_open, begins_body, begins_update, is_atomic_line, line_in_block, is_else, is_name, Ends, ends, left, is_end, noted, read_in, braces_at, closed, parted, in_block, in_blocks}
use Rattle.c_grammar.specs.Nesting.{nested}
use Rattle.c_grammar.specs.Sequences.{in_parts}
use Rattle.c_grammar.specs.Macros.{replaced}
use Rattle.c_grammar.specs.DeclaredFunctions.{undeclared}
use Rattle.c_grammar.specs.Needless.{needed}
use Rattle.c_grammar.specs.Types.{of_one_type}
use Rattle.c_grammar.specs.Counters.{counted}
use Rattle.c_grammar.specs.Descents.{upward}
use Rattle.c_grammar.specs.Devices.{on_devices}
use Rattle.c_grammar.specs.MainArrays.{lifted}
use Rattle.c_grammar.specs.Locals.{in_scalars}
use Rattle.c_grammar.specs.Privates.{owned}
use Rattle.c_grammar.specs.Shared.{apart, awaited, unshared}
use Rattle.c_grammar.specs.Lasting.{lasting}
use Rattle.c_grammar.specs.Unset.{zeroed}
use Rattle.c_grammar.specs.Declarations.{Other, settled}
use Rattle.c_grammar.specs.Prints.{is_text, text_len, alone, print_at, print_on, printed, stays}
use Rattle.c_grammar.specs.Expressions.{Values, value_of, number_for, Worked, Number, Fault}
use Rattle.c_grammar.specs.Constants.{with_terminal, front_two, put_item, Definition, Defines, Misdefines, definition, at_wanted, wanted, Names, definition_len, drop_on, leave_on, undefined, Onward, expressed, read_on, work_on, worked}
use Rattle.c_grammar.specs.Changes as changes
use Rattle.c_grammar.specs.Changes.{With, ByNumber, ByOne}
use Rattle.c_grammar.specs.Initial as globals
use Rattle.c_grammar.specs.Initial.{Globals, Initial, initialized, no_globals}
use Rattle.c_grammar.specs.Functions.{expanded}
use Rattle.c_grammar.specs.Pointers.{pointed}
use Rattle.c_grammar.specs.Loops.{looped}
use Rattle.c_grammar.specs.Triangles.{rectangular}
use Rattle.c_grammar.specs.Structs.{in_rows}
use Rattle.c_grammar.specs.Choices.{chosen}
use Rattle.c_grammar.specs.Conditions.{decided}
use Rattle.c_grammar.specs.Grids.{flat}
use Rattle.c_grammar.specs.Updates.{Outside, commuting}
use Rattle.c_grammar.specs.Allocations.{allocated}
use Rattle.c_grammar.specs.Boxes.{announced, boxed}
use Rattle.c_grammar.specs.Source.{written_out}
use Rattle.c_grammar.proofs.BareAllocations.{allocated_bare}
use Rattle.c_grammar.proofs.BareBoxes.{announced_bare, boxed_bare}
use Rattle.c_grammar.proofs.BareNesting.{nested_bare}
use Rattle.c_grammar.proofs.BareSequences.{parts_bare}
use Rattle.c_grammar.proofs.BareMacros.{replaced_bare}
use Rattle.c_grammar.proofs.BareDeclaredFunctions.{undeclared_bare}
use Rattle.c_grammar.proofs.BareNeedless.{needed_bare}
use Rattle.c_grammar.proofs.BareTypes.{types_bare}
use Rattle.c_grammar.proofs.BareFunctions.{expanded_bare}
use Rattle.c_grammar.proofs.BareLasting.{lasting_bare}
use Rattle.c_grammar.proofs.BareCounters.{counted_bare, zeroed_bare}
use Rattle.c_grammar.proofs.BareDescents.{upward_bare}
use Rattle.c_grammar.proofs.BareDevices.{devices_bare}
use Rattle.c_grammar.proofs.BareMainArrays.{lifted_bare}
use Rattle.c_grammar.proofs.BareLocals.{scalars_bare}
use Rattle.c_grammar.proofs.BarePointers.{pointed_bare}
use Rattle.c_grammar.proofs.BarePrivates.{owned_bare}
use Rattle.c_grammar.proofs.BareShared.{apart_bare, awaited_bare, unshared_bare}
use Rattle.c_grammar.proofs.BareDeclarations.{settled_bare}
use Rattle.c_grammar.proofs.BareLoops.{looped_bare}
use Rattle.c_grammar.proofs.BareTriangles.{rectangular_bare}
use Rattle.c_grammar.proofs.BareStructs.{rows_bare}
use Rattle.c_grammar.proofs.BareChoices.{chosen_bare}
use Rattle.c_grammar.proofs.BareConditions.{decided_bare}
use Rattle.c_grammar.proofs.BareGrids.{flat_bare}
use Rattle.c_grammar.proofs.BareUpdates.{commuting_bare}
use Rattle.c_grammar.proofs.BareTokens.{IsPlain, ArePlain, IsBare, either, one, some, either_plain, plain_bare, same_bare, both_plain}

-- ---- types

type_bare : (i : Item Terminal) (n : ℕ) (go go' : ℕ → Items) → IsPlain i → ((k : ℕ) → IsBare (go' k) (go k))
    → IsBare (type_at i n go') (type_at i n go)
type_bare i zero go go' h r = one i (go 0) (go' 0) h (r 0)
type_bare i (suc n) go go' h r =
    either (same (Name (codes "unsigned")) i.terminal) (at i (Fixed Uint64) ∷ go (suc n)) (i ∷ go 0) _ _
    (ap (λ (v : Items). at i (Fixed Uint64) ∷ v) (r (suc n))) (one i (go 0) (go' 0) h (r 0))

type_on_bare : (k : ℕ) (i : Item Terminal) (n : ℕ) (go go' : ℕ → Items) → IsPlain i
    → ((k : ℕ) → IsBare (go' k) (go k)) → IsBare (type_on k i n go') (type_on k i n go)
type_on_bare zero i n go go' h r = type_bare i n go go' h r
type_on_bare (suc k) i n go go' h r = r k

typed_bare : (is : Items) (k : ℕ) → IsBare (typed k (bare is)) (typed k is)
unfolding typed
typed_bare [] k = refl
typed_bare (i ∷ is) k = step (typed_bare is) (is_directive i.terminal) refl
  where
    step : ((k : ℕ) → IsBare (typed k (bare is)) (typed k is)) → (b : Bool) → is_directive i.terminal ≡ b → IsBare (typed k (bare (i ∷ is))) (typed k (i ∷ is))
    step ih true e = rw e (rw e (ih k))
    step ih false e =
        rw e (rw e (ap (λ (js : Items). type_on k i (longs js) (λ k. typed k (bare is))) (same_bare is)
        ∙ type_on_bare k i (longs (bare is)) (λ k. typed k is) (λ k. typed k (bare is)) e (λ k. ih k)))

-- ---- calls of printf

alone_plain : (i : Item Terminal) → IsPlain i → IsPlain (alone i)
alone_plain i h = go (is_text i.terminal)
  where
    go : (b : Bool) → IsPlain (cond b (at i Unknown) i)
    go true = refl
    go false = h

print_bare : (i : Item Terminal) (n : ℕ) (go go' : ℕ → Items) → IsPlain i → ((k : ℕ) → IsBare (go' k) (go k))
    → IsBare (print_at i n go') (print_at i n go)
print_bare i zero go go' h r = one (alone i) (go 0) (go' 0) (alone_plain i h) (r 0)
print_bare i (suc n) go go' h r =
    either (same (Name (codes "printf")) i.terminal) (at i (Fixed Print) ∷ go (suc n)) (alone i ∷ go 0) _ _
    (ap (λ (v : Items). at i (Fixed Print) ∷ v) (r (suc n))) (one (alone i) (go 0) (go' 0) (alone_plain i h) (r 0))

print_on_bare : (k : ℕ) (i : Item Terminal) (n : ℕ) (go go' : ℕ → Items) → IsPlain i
    → ((k : ℕ) → IsBare (go' k) (go k)) → IsBare (print_on k i n go') (print_on k i n go)
print_on_bare zero i n go go' h r = print_bare i n go go' h r
print_on_bare (suc k) i n go go' h r =
    either (stays i.terminal) (i ∷ go (suc k)) (go k) _ _
    (one i (go (suc k)) (go' (suc k)) h (r (suc k))) (r k)

printed_bare : (is : Items) (k : ℕ) → IsBare (printed k (bare is)) (printed k is)
unfolding printed
printed_bare [] k = refl
printed_bare (i ∷ is) k = step (printed_bare is) (is_directive i.terminal) refl
  where
    step : ((k : ℕ) → IsBare (printed k (bare is)) (printed k is)) → (b : Bool) → is_directive i.terminal ≡ b → IsBare (printed k (bare (i ∷ is))) (printed k (i ∷ is))
    step ih true e = rw e (rw e (ih k))
    step ih false e =
        rw e (rw e (ap (λ (js : Items). print_on k i (text_len js) (λ k. printed k (bare is))) (same_bare is)
        ∙ print_on_bare k i (text_len (bare is)) (λ k. printed k is) (λ k. printed k (bare is)) e (λ k. ih k)))

-- ---- blocks

braces_plain : (n : ℕ) (i : Item Terminal) → ArePlain (braces_at n i)
braces_plain zero i = tt
braces_plain (suc n) i = (refl, braces_plain n i)

token_bare : (i : Item Terminal) (other : Bool) (r : Reading) (go go' : Reading → Items) → IsPlain i
    → ((q : Reading) → IsBare (go' q) (go q)) → IsBare (blocks.plain i other r go') (blocks.plain i other r go)
token_bare i other r go go' h k =
    let e : Ends = ends other (left r.levels i.terminal) in
    either (is_end r.levels i.terminal) _ _ _ _
    (one i _ _ h (some (braces_at e.braces i) _ _ (braces_plain e.braces i) (k _))) (one i _ _ h (k _))

parted_bare : (i : Item Terminal) (is : Items) (r : Reading) (go go' : Reading → Items) → IsPlain i
    → ((q : Reading) → IsBare (go' q) (go q)) → IsBare (parted i is r go') (parted i is r go)
parted_bare i is r go go' h k =
    either (r.declares && (r.brackets == 0) && same (Mark sign.Comma) i.terminal && is_name is) _ _ _ _
    (ap (λ (v : Items). at i (Mark sign.Semicolon) ∷ at i (Fixed Uint64) ∷ v) (k r)) (token_bare i (is_else is) r go go' h k)

block_bare : (i : Item Terminal) (is : Items) (r : Reading) (go go' : Reading → Items) → IsPlain i
    → ((q : Reading) → IsBare (go' q) (go q)) → IsBare (in_block i is r go') (in_block i is r go)
block_bare i is r go go' h k =
    either (r.body && begins_body i.terminal) _ _ _ _
    (ap (λ (v : Items). at i (Mark sign.OpenBrace) ∷ v)
    (token_bare i (is_else is) (with_open (Around ∷ r.levels) false r) go go' h k))
    (parted_bare i is (with_open r.levels false r) go go' h k)

update_begins : (t : Terminal) → begins_update t ≡ true → begins_body t ≡ true
update_begins (Name x) e = refl
update_begins (Line ts) e = absurd cc
update_begins (Fixed w) e = absurd cc
update_begins (Mark s) e = absurd cc
update_begins (Num n) e = absurd cc
update_begins Unknown e = absurd cc
update_begins Unworked e = absurd cc
update_begins End e = absurd cc

update_is_no_comma : (t : Terminal) → begins_update t ≡ true → same (Mark sign.Comma) t ≡ false
update_is_no_comma (Name x) e = refl
update_is_no_comma (Line ts) e = absurd cc
update_is_no_comma (Fixed w) e = absurd cc
update_is_no_comma (Mark s) e = absurd cc
update_is_no_comma (Num n) e = absurd cc
update_is_no_comma Unknown e = absurd cc
update_is_no_comma Unworked e = absurd cc
update_is_no_comma End e = absurd cc

no_part : (a b c : Bool) → c ≡ false → (a && c) && b ≡ false
no_part true b c e = rw e refl
no_part false b c e = refl

-- the brace of a body that a name begins can as well be put first
block_body : (j : Item Terminal) (is : Items) (r : Reading) (go : Reading → Items) → r.body ≡ true →
    begins_update j.terminal ≡ true →
    in_block j is r go ≡ at j (Mark sign.OpenBrace) ∷ in_block j is (with_open (Around ∷ r.levels) false r) go
block_body j is r go b e =
    ap (λ (t : Bool). cond t (at j (Mark sign.OpenBrace) ∷ token) (parted j is (with_open r.levels false r) go))
    (ap (λ (t : Bool). t && begins_body j.terminal) b ∙ update_begins j.terminal e)
    ∙ ap (λ (v : Items). at j (Mark sign.OpenBrace) ∷ v) (sym inside)
  where
    after : Reading
    after = with_open (Around ∷ r.levels) false r

    token : Items
    token = blocks.plain j (is_else is) after go

    inside : parted j is after go ≡ token
    inside =
        ap (λ (t : Bool). cond t (at j (Mark sign.Semicolon) ∷ at j (Fixed Uint64) ∷ go after) token)
        (no_part (r.declares && (r.brackets == 0)) (is_name is) (same (Mark sign.Comma) j.terminal)
        (update_is_no_comma j.terminal e))

put_before : (j : Item Terminal) (js : Items) (r : Reading) → is_directive j.terminal ≡ false → r.body ≡ true →
    begins_update j.terminal ≡ true →
    in_blocks r (j ∷ js) ≡ at j (Mark sign.OpenBrace) ∷ in_blocks (with_open (Around ∷ r.levels) false r) (j ∷ js)
unfolding in_blocks
put_before j js r f b e = rw f (block_body j (bare js) r (λ q. in_blocks q js) b e)

line_bare : (i : Item Terminal) (bs : Items) (r : Reading) (go go' : Reading → Items) → is_directive i.terminal ≡ true →
    ((q : Reading) → go' q ≡ in_blocks q bs) → ArePlain bs → ((q : Reading) → IsBare (go' q) (go q)) →
    IsBare (go' r) (line_in_block i bs r go)
line_bare i [] r go go' e f h k = rw e (k r)
line_bare i (j ∷ js) r go go' e f h k = step (r.body) (is_atomic_line i.terminal) (begins_update j.terminal) refl refl
  where
    plain : IsBare (go' r) (i ∷ go r)
    plain = rw e (k r)

    step : (b c d : Bool) → r.body ≡ b → begins_update j.terminal ≡ d →
        IsBare (go' r) (cond (b && c && d) (at j (Mark sign.OpenBrace) ∷ i ∷ go (with_open (Around ∷ r.levels) false r)) (i ∷ go r))
    step true true true m n =
        f r ∙ put_before j js r h.0 m n
        ∙ ap (λ (is : Items). at j (Mark sign.OpenBrace) ∷ is) (sym (f (with_open (Around ∷ r.levels) false r)))
        ∙ ap (λ (is : Items). at j (Mark sign.OpenBrace) ∷ is)
        (rw e (k (with_open (Around ∷ r.levels) false r)))
    step true true false m n = plain
    step true false d m n = plain
    step false c d m n = plain

blocks_bare : (is : Items) (r : Reading) → IsBare (in_blocks r (bare is)) (in_blocks r is)
unfolding in_blocks
blocks_bare [] r = refl
blocks_bare (i ∷ is) r = step (blocks_bare is) (is_directive i.terminal) refl
  where
    step : ((r : Reading) → IsBare (in_blocks r (bare is)) (in_blocks r is)) → (b : Bool) → is_directive i.terminal ≡ b → IsBare (in_blocks r (bare (i ∷ is))) (in_blocks r (i ∷ is))
    step ih true e =
        rw e (line_bare i (bare is) r (λ q. in_blocks q is) (λ q. in_blocks q (bare is)) e (λ q. refl) (plain_bare is) ih)
    step ih false e =
        rw e (rw e (ap (λ (js : Items). in_block i js r (λ r. in_blocks r (bare is))) (same_bare is)
        ∙ block_bare i (bare is) r (λ r. in_blocks r is) (λ r. in_blocks r (bare is)) e (λ r. ih r)))

-- ---- constants

omp_kept : (ts us : List Lexeme) → is_omp ts ≡ true → is_omp (front_two ts ++ us) ≡ true
unfolding is_omp
omp_kept [] us h = absurd cc
omp_kept (t ∷ []) us h = absurd cc
omp_kept (t ∷ u ∷ ts) us h = h

line_put : (vs : Values) (past : List Terminal) (i : Item Terminal) (t : Terminal) → is_directive t ≡ true
    → is_directive (put_item vs past i t).terminal ≡ true
line_put vs past i (Line ts) h = rw h (omp_kept ts _ h)
line_put vs past i (Name x) h = absurd cc
line_put vs past i (Fixed w) h = absurd cc
line_put vs past i (Mark s) h = absurd cc
line_put vs past i (Num n) h = absurd cc
line_put vs past i Unknown h = absurd cc
line_put vs past i Unworked h = absurd cc
line_put vs past i End h = absurd cc

plain_put : (vs : Values) (past : List Terminal) (i : Item Terminal) (t : Terminal) → i.terminal ≡ t → is_directive t ≡ false
    → IsPlain (put_item vs past i t)
plain_put vs past i (Line ts) e h = (let same : is_directive i.terminal ≡ false = ap (λ (u : Terminal). is_directive u) e ∙ h in rw h same)
plain_put vs past i (Name x) e h = go (value_of vs x)
  where
    go : (o : Option ℕ) → is_directive (number_for x o) ≡ false
    go None = refl
    go (Some n) = refl
plain_put vs past i (Fixed w) e h = refl
plain_put vs past i (Mark s) e h = refl
plain_put vs past i (Num n) e h = refl
plain_put vs past i Unknown e h = refl
plain_put vs past i Unworked e h = refl
plain_put vs past i End e h = refl

abbrev AreBare : Onward → Onward → Type 0
AreBare go' go = (vs : Values) (past : List Terminal) (k : ℕ) → IsBare (go' vs past k) (go vs past k)

expressed_bare : (vs : Values) (past : List Terminal) (i : Item Terminal) (o : Option Worked) (go go' : Onward) → IsPlain i
    → AreBare go' go → IsBare (expressed vs past i o go') (expressed vs past i o go)
expressed_bare vs past i None go go' h r =
    one (put_item vs past i i.terminal) _ _ (plain_put vs past i i.terminal refl h) (r _ _ _)
expressed_bare vs past i (Some (Number k n)) go go' h r = one (with_terminal i (Num (Some n))) _ _ refl (r _ _ _)
expressed_bare vs past i (Some (Fault k p)) go go' h r = one (with_terminal p Unworked) _ _ refl (r _ _ _)

read_bare : (vs : Values) (past : List Terminal) (i : Item Terminal) (is : Items) (o : Option Definition) (go go' : Onward)
    → IsPlain i → AreBare go' go → IsBare (read_on vs past i is o go') (read_on vs past i is o go)
read_bare vs past i is (Some (Defines x n)) go go' h r = r _ _ _
read_bare vs past i is (Some (Misdefines p)) go go' h r = one (with_terminal p Unworked) _ _ refl (r _ _ _)
read_bare vs past i is None go go' h r = expressed_bare vs past i (at_wanted vs (i ∷ is) (wanted past)) go go' h r

work_bare : (k : ℕ) (vs : Values) (past : List Terminal) (i : Item Terminal) (is : Items) (go go' : Onward) → IsPlain i
    → AreBare go' go → IsBare (work_on k vs past i is go') (work_on k vs past i is go)
work_bare zero vs past i is go go' h r = read_bare vs past i is (definition vs i i.terminal) go go' h r
work_bare (suc k) vs past i is go go' h r = r _ _ _

worked_bare : (is : Items) (vs : Values) (past : List Terminal) (k : ℕ) → IsBare (worked vs past k (bare is)) (worked vs past k is)
unfolding worked
worked_bare [] vs past k = refl
worked_bare (i ∷ is) vs past k = step (worked_bare is) (is_directive i.terminal) refl
  where
    step : ((vs : Values) (past : List Terminal) (k : ℕ) → IsBare (worked vs past k (bare is)) (worked vs past k is)) → (b : Bool) → is_directive i.terminal ≡ b → IsBare (worked vs past k (bare (i ∷ is))) (worked vs past k (i ∷ is))
    step ih true e = (let p = line_put vs past i i.terminal e in rw e (rw p (ih vs past k)))
    step ih false e =
        rw e (rw e (ap (λ (js : Items). work_on k vs past i js (λ vs past k. worked vs past k (bare is))) (same_bare is)
        ∙ work_bare k vs past i (bare is) (λ vs past k. worked vs past k is) (λ vs past k. worked vs past k (bare is)) e
        (λ vs past k. ih vs past k)))

-- ---- definitions

drop_bare : (ns : Names) (d : ℕ) (i : Item Terminal) (is : Items) (o : Option ℕ) (go go' : Names → ℕ → ℕ → Items)
    → IsPlain i → ((ns : Names) (d k : ℕ) → IsBare (go' ns d k) (go ns d k))
    → IsBare (drop_on ns d i is o go') (drop_on ns d i is o go)
drop_bare ns d i is None go go' h r = one i _ _ h (r _ _ _)
drop_bare ns d i is (Some k) go go' h r = either (nat_le d 1) _ _ _ _ (r _ _ _) (one i _ _ h (r _ _ _))

leave_bare : (k : ℕ) (ns : Names) (d : ℕ) (i : Item Terminal) (is : Items) (go go' : Names → ℕ → ℕ → Items)
    → IsPlain i → ((ns : Names) (d k : ℕ) → IsBare (go' ns d k) (go ns d k))
    → IsBare (leave_on k ns d i is go') (leave_on k ns d i is go)
leave_bare zero ns d i is go go' h r = drop_bare ns d i is (definition_len ns i.terminal is) go go' h r
leave_bare (suc k) ns d i is go go' h r = r _ _ _

undefined_bare : (is : Items) (ns : Names) (d k : ℕ) → IsBare (undefined ns d k (bare is)) (undefined ns d k is)
unfolding undefined
undefined_bare [] ns d k = refl
undefined_bare (i ∷ is) ns d k = step (undefined_bare is) (is_directive i.terminal) refl
  where
    step : ((ns : Names) (d k : ℕ) → IsBare (undefined ns d k (bare is)) (undefined ns d k is)) → (b : Bool) → is_directive i.terminal ≡ b → IsBare (undefined ns d k (bare (i ∷ is))) (undefined ns d k (i ∷ is))
    step ih true e = rw e (rw e (ih ns d k))
    step ih false e =
        rw e (rw e (ap (λ (js : Items). leave_on k ns d i js (λ n d k. undefined n d k (bare is))) (same_bare is)
        ∙ leave_bare k ns d i (bare is) (λ n d k. undefined n d k is) (λ n d k. undefined n d k (bare is)) e
        (λ n d k. ih n d k)))

-- ---- changes

abbrev Go : Type 0
Go = changes.State → ℕ → Items

abbrev GoBare : Go → Go → Type 0
GoBare go' go = (q : changes.State) (k : ℕ) → ArePlain q.since → IsBare (go' q k) (go q k)

reversed_plain : (is js : Items) → ArePlain is → ArePlain js → ArePlain (changes.reversed is js)
reversed_plain [] js h k = k
reversed_plain (i ∷ is) js h k = reversed_plain is (i ∷ js) h.1 (h.0, k)

first_plain : (is : Items) (i : Item Terminal) → ArePlain is → IsPlain i → IsPlain (changes.first_of is i)
first_plain [] i h k = k
first_plain (j ∷ js) i h k = h.0

assigned_plain : (i : Item Terminal) (lv : Items) (op : Sign) → ArePlain lv → ArePlain (changes.assigned i lv op)
assigned_plain i lv op h = (refl, both_plain lv (at i (Mark op) ∷ []) h (refl, tt))

kept_bare : (i : Item Terminal) (s : changes.State) (go go' : Go) → IsPlain i → ArePlain s.since → GoBare go' go
    → IsBare (changes.kept i s go') (changes.kept i s go)
kept_bare i s go go' h q r =
    one i _ _ h (r _ 0 (either_plain (changes.is_boundary i.terminal) [] (i ∷ s.since) tt (h, q)))

grouped_bare : (i : Item Terminal) (lv : Items) (op : Sign) (is : Items) (go go' : Go) → ArePlain lv → GoBare go' go
    → IsBare (changes.grouped i lv op is go') (changes.grouped i lv op is go)
grouped_bare i lv op is go go' h r =
    some (changes.assigned i lv op) _ _ (assigned_plain i lv op h)
    (ap (λ (v : Items). at (changes.first_of is i) (Mark sign.OpenParen) ∷ v) (r _ 0 tt))

changed_bare : (i : Item Terminal) (lv : Items) (k : changes.Kind) (is : Items) (s : changes.State) (go go' : Go) → IsPlain i
    → ArePlain lv → ArePlain s.since → GoBare go' go → IsBare (changes.changed i lv k is s go') (changes.changed i lv k is s go)
changed_bare i lv (With op) is s go go' h l q r = grouped_bare i lv op is go go' l r
changed_bare i lv (ByNumber op) is s go go' h l q r =
    either (changes.is_number_ended is) _ _ _ _
    (some (changes.assigned i lv op) _ _ (assigned_plain i lv op l) (r _ 0 tt)) (grouped_bare i lv op is go go' l r)
changed_bare i lv (ByOne op) is s go go' h l q r =
    either (changes.is_ended is) _ _ _ _
    (some (changes.assigned i lv op) _ _ (assigned_plain i lv op l) (ap (λ (v : Items). changes.one_at i ∷ v) (r _ 0 tt)))
    (kept_bare i s go go' h q r)

front_bare : (i : Item Terminal) (k : changes.Kind) (is : Items) (s : changes.State) (go go' : Go) → IsPlain i
    → ArePlain s.since → GoBare go' go → IsBare (changes.at_front i k is s go') (changes.at_front i k is s go)
front_bare i (ByOne op) is s go go' h q r =
    either (changes.is_target_ended is) _ _ _ _ (r _ 0 tt) (kept_bare i s go go' h q r)
front_bare i (With op) is s go go' h q r = kept_bare i s go go' h q r
front_bare i (ByNumber op) is s go go' h q r = kept_bare i s go go' h q r

target_bare : (i : Item Terminal) (k : changes.Kind) (is : Items) (s : changes.State) (b : Bool) (go go' : Go) → IsPlain i
    → ArePlain s.since → GoBare go' go
    → IsBare (changes.by_target i k is s (cond b (Some (changes.reversed s.since [])) None) go')
    (changes.by_target i k is s (cond b (Some (changes.reversed s.since [])) None) go)
target_bare i k is s true go go' h q r =
    changed_bare i (changes.reversed s.since []) k is s go go' h (reversed_plain s.since [] q tt) q r
target_bare i k is s false go go' h q r = kept_bare i s go go' h q r

kind_bare : (i : Item Terminal) (o : Option changes.Kind) (is : Items) (s : changes.State) (go go' : Go) → IsPlain i
    → ArePlain s.since → GoBare go' go → IsBare (changes.by_kind i o is s go') (changes.by_kind i o is s go)
kind_bare i None is s go go' h q r = kept_bare i s go go' h q r
kind_bare i (Some k) is s go go' h q r =
    either (changes.is_empty s.since) _ _ _ _ (front_bare i k is s go go' h q r)
    (target_bare i k is s (changes.is_target (changes.reversed s.since [])) go go' h q r)

outside_bare : (i : Item Terminal) (is : Items) (s : changes.State) (go go' : Go) → IsPlain i → ArePlain s.since
    → GoBare go' go → IsBare (changes.outside i is s go') (changes.outside i is s go)
outside_bare i is s go go' h q r =
    either (same (Fixed For) i.terminal) _ _ _ _ (one i _ _ h (r _ 0 tt))
    (either (changes.has_words i is s) _ _ _ _ (one (at i (Fixed Void)) _ _ refl (r _ (changes.words_len is) (h, q)))
    (either (changes.is_mark sign.CloseParen i && changes.is_main s.since) _ _ _ _
    (ap (λ (v : Items). at i (Fixed Void) ∷ v) (kept_bare i s go go' h q r))
    (either (same (Name (codes "return")) i.terminal && changes.is_empty s.since && changes.is_last_return is) _ _ _ _
    (r s 2 q) (kind_bare i (changes.kind_of i.terminal) is s go go' h q r))))

limit_plain : (i : Item Terminal) (o : Option ℕ) → IsPlain (at i (changes.limit_token o))
limit_plain i None = refl
limit_plain i (Some n) = refl

limited_bare : (i : Item Terminal) (is : Items) (n : ℕ) (s : changes.State) (o : Option (Option ℕ)) (go go' : Go) → IsPlain i
    → ArePlain s.since → GoBare go' go → IsBare (changes.limited i is n s o go') (changes.limited i is n s o go)
limited_bare i is n s None go go' h q r = kept_bare i s go go' h q r
limited_bare i is n s (Some o) go go' h q r =
    ap (λ (v : Items). at i (Mark sign.Less) ∷ v)
    (one (at (changes.first_of is i) (changes.limit_token o)) _ _ (limit_plain (changes.first_of is i) o) (r _ 1 tt))

head_bare : (n : ℕ) (i : Item Terminal) (is : Items) (s : changes.State) (go go' : Go) → IsPlain i → ArePlain is
    → ArePlain s.since → GoBare go' go → IsBare (changes.in_head n i is s go') (changes.in_head n i is s go)
head_bare n i is s go go' h j q r =
    either (changes.is_mark sign.OpenParen i) _ _ _ _
    (kept_bare i (changes.in_state (changes.InHead (n + 1)) []) go go' h tt r)
    (either (changes.is_mark sign.CloseParen i) _ _ _ _ (one i _ _ h (r _ 0 tt))
    (either (changes.is_mark sign.LessEqual i) _ _ _ _ (limited_bare i is n s (changes.limit_behind is) go go' h q r)
    (either (changes.is_mark sign.PlusPlus i && changes.closes_head is) _ _ _ _
    (ap (λ (v : Items). at i (Mark sign.PlusEqual) ∷ changes.one_at i ∷ v) (r s 0 q))
    (either (changes.is_mark sign.PlusPlus i && changes.is_name_closed is) _ _ _ _
    (one (changes.first_of is i) (at i (Mark sign.PlusEqual) ∷ changes.one_at i ∷ go s 1)
    (at i (Mark sign.PlusEqual) ∷ changes.one_at i ∷ go' s 1) (first_plain is i j h)
    (ap (λ (v : Items). at i (Mark sign.PlusEqual) ∷ changes.one_at i ∷ v) (r s 1 q)))
    (kept_bare i s go go' h q r)))))

group_bare : (n : ℕ) (i : Item Terminal) (s : changes.State) (go go' : Go) → IsPlain i → ArePlain s.since → GoBare go' go
    → IsBare (changes.in_group n i s go') (changes.in_group n i s go)
group_bare n i s go go' h q r =
    either (changes.is_mark sign.OpenParen i) _ _ _ _ (one i _ _ h (r _ 0 tt))
    (either (changes.is_mark sign.CloseParen i) _ _ _ _
    (either (nat_lt 0 n) _ _ _ _ (one i _ _ h (r _ 0 tt))
    (ap (λ (v : Items). changes.close_at i ∷ v) (one i _ _ h (r _ 0 tt))))
    (either (changes.is_mark sign.Semicolon i) _ _ _ _
    (ap (λ (v : Items). changes.close_at i ∷ v) (one i _ _ h (r _ 0 tt)))
    (either (changes.is_boundary i.terminal) _ _ _ _ (one i _ _ h (r _ 0 tt)) (one i _ _ h (r s 0 q)))))

behind_bare : (op : Sign) (i : Item Terminal) (s : changes.State) (go go' : Go) → IsPlain i → ArePlain s.since
    → GoBare go' go → IsBare (changes.behind_front op i s go') (changes.behind_front op i s go)
behind_bare op i s go go' h q r =
    let lv : Items = changes.reversed s.since [] in
    either (changes.is_mark sign.Semicolon i) _ _ _ _
    (some (changes.assigned i lv op) _ _ (assigned_plain i lv op (reversed_plain s.since [] q tt))
    (ap (λ (v : Items). changes.one_at i ∷ v) (one i _ _ h (r _ 0 tt))))
    (kept_bare i s go go' h q r)

place_bare : (p : changes.Where) (i : Item Terminal) (is : Items) (s : changes.State) (go go' : Go) → IsPlain i → ArePlain is
    → ArePlain s.since → GoBare go' go → IsBare (changes.token p i is s go') (changes.token p i is s go)
place_bare changes.Outside i is s go go' h j q r = outside_bare i is s go go' h q r
place_bare (changes.InHead n) i is s go go' h j q r = head_bare n i is s go go' h j q r
place_bare (changes.Grouped n) i is s go go' h j q r = group_bare n i s go go' h q r
place_bare (changes.Behind op) i is s go go' h j q r = behind_bare op i s go go' h q r

token_on_bare : (k : ℕ) (s : changes.State) (i : Item Terminal) (is : Items) (go go' : Go) → IsPlain i → ArePlain is
    → ArePlain s.since → GoBare go' go → IsBare (changes.token_on k s i is go') (changes.token_on k s i is go)
token_on_bare zero s i is go go' h j q r = place_bare s.place i is s go go' h j q r
token_on_bare (suc k) s i is go go' h j q r = r s k q

full_bare : (is : Items) (s : changes.State) (k : ℕ) → ArePlain s.since
    → IsBare (changes.in_full s k (bare is)) (changes.in_full s k is)
unfolding changes.in_full
full_bare [] s k q = refl
full_bare (i ∷ is) s k q = step (full_bare is) (is_directive i.terminal) refl
  where
    step : ((s : changes.State) (k : ℕ) → ArePlain s.since → IsBare (changes.in_full s k (bare is)) (changes.in_full s k is)) → (b : Bool) → is_directive i.terminal ≡ b → IsBare (changes.in_full s k (bare (i ∷ is))) (changes.in_full s k (i ∷ is))
    step ih true e = rw e (rw e (ih s k q))
    step ih false e =
        rw e (rw e (ap (λ (js : Items). changes.token_on k s i js (λ s k. changes.in_full s k (bare is))) (same_bare is)
        ∙ token_on_bare k s i (bare is) (λ s k. changes.in_full s k is) (λ s k. changes.in_full s k (bare is)) e (plain_bare is) q
        (λ s k n. ih s k n)))

-- ---- initializers

abbrev AreSetsPlain : Option Initial → Type 0
AreSetsPlain None = Unit {0}
AreSetsPlain (Some f) = ArePlain f.sets

picked_plain : (b : Bool) (f g : Option Initial) → AreSetsPlain f → AreSetsPlain g → AreSetsPlain (cond b f g)
picked_plain true f g h k = h
picked_plain false f g h k = k

value_plain : (x : List ℕ) (i : Item Terminal) (o : Option ℕ) → AreSetsPlain (globals.scalar_valued x i o)
value_plain x i None = tt
value_plain x i (Some n) = (refl, (refl, (refl, (refl, tt))))

scalar_plain : (t : Terminal) (is : Items) → AreSetsPlain (globals.named_scalar t is)
scalar_plain (Name x) [] = tt
scalar_plain (Name x) (n ∷ []) = tt
scalar_plain (Name x) (n ∷ s ∷ is) = picked_plain (changes.is_mark sign.Semicolon s) _ None (value_plain x n (globals.value_of n.terminal)) tt
scalar_plain (Fixed w) is = tt
scalar_plain (Mark m) is = tt
scalar_plain (Num n) is = tt
scalar_plain (Line ts) is = tt
scalar_plain Unknown is = tt
scalar_plain Unworked is = tt
scalar_plain End is = tt

cell_plain : (x : List ℕ) (length k : ℕ) (sets : Items) (i s e : Item Terminal) (o : Option ℕ) (go : Items → Option Initial)
    → ArePlain sets → ((js : Items) → ArePlain js → AreSetsPlain (go js))
    → AreSetsPlain (globals.cell_valued x length k sets i s e o go)
cell_plain x length k sets i s e None go h r = tt
cell_plain x length k sets i s e (Some n) go h r =
    let all : ArePlain (sets ++ globals.cell_set x k i n) =
    both_plain sets (globals.cell_set x k i n) h (refl, (refl, (refl, (refl, (refl, (refl, (refl, tt))))))) in
    picked_plain (nat_lt k length) _ None
    (picked_plain (globals.ends_list s e) _ _ all
    (picked_plain (changes.is_mark sign.Comma s) _ None (r (sets ++ globals.cell_set x k i n) all) tt)) tt

list_plain : (x : List ℕ) (length k : ℕ) (sets is : Items) → ArePlain sets
    → AreSetsPlain (globals.list_initial x length k sets is)
list_plain x length k sets [] h = tt
list_plain x length k sets (n ∷ []) h = tt
list_plain x length k sets (n ∷ s ∷ []) h = tt
list_plain x length k sets (n ∷ s ∷ e ∷ is) h =
    cell_plain x length k sets n s e (globals.value_of n.terminal) (λ js. globals.list_initial x length (k + 1) js (e ∷ is)) h
    (λ js j. list_plain x length (k + 1) js (e ∷ is) j)

braces_set_plain : (x : List ℕ) (length : ℕ) (is : Items) → AreSetsPlain (globals.array_initial x length is)
braces_set_plain x length [] = tt
braces_set_plain x length (o ∷ is) =
    picked_plain (changes.is_mark sign.OpenBrace o) _ None (list_plain x length 0 [] is tt) tt

array_plain : (t : Terminal) (o : Option ℕ) (is : Items) → AreSetsPlain (globals.named_array t o is)
array_plain (Name x) (Some length) is = braces_set_plain x length is
array_plain (Name x) None is = tt
array_plain (Fixed w) o is = tt
array_plain (Mark m) o is = tt
array_plain (Num n) o is = tt
array_plain (Line ts) o is = tt
array_plain Unknown o is = tt
array_plain Unworked o is = tt
array_plain End o is = tt

initial_plain : (since is : Items) → AreSetsPlain (globals.initial since is)
initial_plain [] is = tt
initial_plain (t ∷ []) is = tt
initial_plain (t ∷ x ∷ []) is = picked_plain (globals.is_type t) _ None (scalar_plain x.terminal is) tt
initial_plain (t ∷ x ∷ o ∷ []) is = tt
initial_plain (t ∷ x ∷ o ∷ n ∷ []) is = tt
initial_plain (t ∷ x ∷ o ∷ n ∷ c ∷ []) is =
    picked_plain (globals.is_type t) _ None (array_plain x.terminal (globals.length_in o n c) is) tt
initial_plain (t ∷ x ∷ o ∷ n ∷ c ∷ d ∷ since) is = tt

abbrev GoesOn : Type 0
GoesOn = Globals → ℕ → Items

abbrev GoesBare : GoesOn → GoesOn → Type 0
GoesBare go' go = (g : Globals) (k : ℕ) → ArePlain g.late → IsBare (go' g k) (go g k)

declared_bare : (i : Item Terminal) (g : Globals) (go go' : GoesOn) → IsPlain i → ArePlain g.late → GoesBare go' go
    → IsBare (globals.declared i g go') (globals.declared i g go)
declared_bare i g go go' h l r = one i _ _ h (r _ 0 l)

late_bare : (i : Item Terminal) (g : Globals) (o : Option Initial) (go go' : GoesOn) → IsPlain i → ArePlain g.late
    → AreSetsPlain o → GoesBare go' go → IsBare (globals.set_late i g o go') (globals.set_late i g o go)
late_bare i g None go go' h l p r = declared_bare i g go go' h l r
late_bare i g (Some f) go go' h l p r = r _ f.len (both_plain g.late f.sets l p)

global_bare : (i : Item Terminal) (is : Items) (g : Globals) (go go' : GoesOn) → IsPlain i → ArePlain g.late → GoesBare go' go
    → IsBare (globals.outside i is g go') (globals.outside i is g go)
global_bare i is g go go' h l r =
    either (changes.is_mark sign.OpenBrace i) _ _ _ _ (one i _ _ h (some g.late _ _ l (r globals.in_main 0 tt)))
    (either (changes.is_mark sign.Equal i) _ _ _ _
    (late_bare i g (globals.initial g.since is) go go' h l (initial_plain g.since is) r) (declared_bare i g go go' h l r))

global_on_bare : (k : ℕ) (g : Globals) (i : Item Terminal) (is : Items) (go go' : GoesOn) → IsPlain i → ArePlain g.late
    → GoesBare go' go → IsBare (globals.global_on k g i is go') (globals.global_on k g i is go)
global_on_bare zero g i is go go' h l r =
    either g.inside _ _ _ _ (one i _ _ h (r g 0 l)) (global_bare i is g go go' h l r)
global_on_bare (suc k) g i is go go' h l r = r g k l

initialized_bare : (is : Items) (g : Globals) (k : ℕ) → ArePlain g.late
    → IsBare (initialized g k (bare is)) (initialized g k is)
unfolding initialized
initialized_bare [] g k l = refl
initialized_bare (i ∷ is) g k l = step (initialized_bare is) (is_directive i.terminal) refl
  where
    step : ((g : Globals) (k : ℕ) → ArePlain g.late → IsBare (initialized g k (bare is)) (initialized g k is)) → (b : Bool) → is_directive i.terminal ≡ b → IsBare (initialized g k (bare (i ∷ is))) (initialized g k (i ∷ is))
    step ih true e = rw e (rw e (ih g k l))
    step ih false e =
        rw e (rw e (ap (λ (js : Items). globals.global_on k g i js (λ g k. initialized g k (bare is))) (same_bare is)
        ∙ global_on_bare k g i (bare is) (λ g k. initialized g k is) (λ g k. initialized g k (bare is)) e l
        (λ g k n. ih g k n)))

-- ---- all of it

-- what follows the constants
later_bare : (is : Items)
    → IsBare (on_devices (announced (changes.in_full changes.begin 0 (initialized no_globals 0 (allocated (bare is))))))
    (on_devices (announced (changes.in_full changes.begin 0 (initialized no_globals 0 (allocated is)))))
later_bare is =
    let full : Items → Items = λ js. on_devices (announced (changes.in_full changes.begin 0 js)) in
    ap (λ (js : Items). full (initialized no_globals 0 js)) (allocated_bare is)
    ∙ ap full (initialized_bare (allocated is) no_globals 0 tt)
    ∙ ap (λ (js : Items). on_devices (announced js)) (full_bare (initialized no_globals 0 (allocated is)) changes.begin 0 tt)
    ∙ ap on_devices (announced_bare (changes.in_full changes.begin 0 (initialized no_globals 0 (allocated is))))
    ∙ devices_bare (announced (changes.in_full changes.begin 0 (initialized no_globals 0 (allocated is))))

pub written_bare : (is : Items) → written_out (bare is) ≡ bare (written_out is)
written_bare is =
    let m : Items = replaced is in
    let z : Items = in_parts m in
    let n : Items = nested z in
    let p : Items = printed 0 n in
    let a : Items = typed 0 p in
    let needs : Items = needed a in
    let s : Items = in_rows needs in
    let u : Items = undeclared false s in
    let one_type : Items = of_one_type u in
    let b : Items = in_blocks nothing_read one_type in
    let t : Items = unshared b in
    let l : Items = counted t in
    let v : Items = upward l in
    let o : Items = owned v in
    let w : Items = lasting o in
    let d : Items = settled Other (zeroed w) in
    let c : Items = worked [] [] 0 d in
    let q : Items = pointed c in
    let y : Items = expanded q in
    let e : Items = decided y in
    let f : Items = looped e in
    let h : Items = rectangular f in
    let j : Items = lifted h in
    let i : Items = awaited j in
    let k : Items = in_scalars i in
    let x : Items = chosen k in
    let r : Items = flat true [] [] [] 0 (undefined [] 0 0 x) in
    let g : Items = flat false [] [] [] 0 r in
    let later : Items → Items =
    λ js. on_devices (announced (changes.in_full changes.begin 0 (initialized no_globals 0 (allocated js)))) in
    let since_updates : Items → Items = λ js. later (commuting Outside js) in
    let since_boxes : Items → Items = λ js. since_updates (boxed js) in
    let since_apart : Items → Items = λ js. since_boxes (apart js) in
    let since_rows : Items → Items = λ js. since_apart (flat false [] [] [] 0 js) in
    let since_grids : Items → Items = λ js. since_rows (flat true [] [] [] 0 js) in
    let since_defined : Items → Items = λ js. since_grids (undefined [] 0 0 js) in
    let since_loops : Items → Items = λ js. since_defined (chosen (in_scalars (awaited (lifted (rectangular js))))) in
    let since_declared : Items → Items = λ js.
    since_loops (looped (decided (expanded (pointed (worked [] [] 0 js))))) in
    let since_zeroed : Items → Items = λ js. since_declared (settled Other js) in
    let since_upward : Items → Items = λ js. since_zeroed (zeroed (lasting (owned js))) in
    let since_counted : Items → Items = λ js. since_upward (upward js) in
    let since_shared : Items → Items = λ js. since_counted (counted js) in
    let since_blocks : Items → Items = λ js. since_shared (unshared js) in
    let since_structs : Items → Items = λ js. since_blocks (in_blocks nothing_read (of_one_type (undeclared false js))) in
    let since_typed : Items → Items = λ js. since_structs (in_rows (needed js)) in
    ap (λ (js : Items). since_typed (typed 0 (printed 0 (nested (in_parts js))))) (replaced_bare is)
    ∙ ap (λ (js : Items). since_typed (typed 0 (printed 0 (nested js)))) (parts_bare m)
    ∙ ap (λ (js : Items). since_typed (typed 0 (printed 0 js))) (nested_bare z)
    ∙ ap (λ (js : Items). since_typed (typed 0 js)) (printed_bare n 0)
    ∙ ap since_typed (typed_bare p 0)
    ∙ ap (λ (js : Items). since_structs (in_rows js)) (needed_bare a)
    ∙ ap since_structs (rows_bare needs)
    ∙ ap (λ (js : Items). since_blocks (in_blocks nothing_read (of_one_type js))) (undeclared_bare s false)
    ∙ ap (λ (js : Items). since_blocks (in_blocks nothing_read js)) (types_bare u)
    ∙ ap since_blocks (blocks_bare one_type nothing_read)
    ∙ ap since_shared (unshared_bare b)
    ∙ ap since_counted (counted_bare t)
    ∙ ap since_upward (upward_bare l)
    ∙ ap (λ (js : Items). since_zeroed (zeroed (lasting js))) (owned_bare v)
    ∙ ap (λ (js : Items). since_zeroed (zeroed js)) (lasting_bare o)
    ∙ ap since_zeroed (zeroed_bare w)
    ∙ ap since_declared (settled_bare (zeroed w) Other)
    ∙ ap (λ (js : Items). since_loops (looped (decided (expanded (pointed js))))) (worked_bare d [] [] 0)
    ∙ ap (λ (js : Items). since_loops (looped (decided (expanded js)))) (pointed_bare c)
    ∙ ap (λ (js : Items). since_loops (looped (decided js))) (expanded_bare (λ js. worked_bare js [] [] 0) q)
    ∙ ap (λ (js : Items). since_loops (looped js)) (decided_bare y)
    ∙ ap since_loops (looped_bare e)
    ∙ ap (λ (js : Items). since_defined (chosen (in_scalars (awaited (lifted js))))) (rectangular_bare f)
    ∙ ap (λ (js : Items). since_defined (chosen (in_scalars (awaited js)))) (lifted_bare h)
    ∙ ap (λ (js : Items). since_defined (chosen (in_scalars js))) (awaited_bare j)
    ∙ ap (λ (js : Items). since_defined (chosen js)) (scalars_bare i)
    ∙ ap since_defined (chosen_bare k)
    ∙ ap since_grids (undefined_bare x [] 0 0)
    ∙ ap since_rows (flat_bare (undefined [] 0 0 x) true [] [] [] 0)
    ∙ ap since_apart (flat_bare r false [] [] [] 0)
    ∙ ap since_boxes (apart_bare g)
    ∙ ap since_updates (boxed_bare (apart g))
    ∙ ap later (commuting_bare (boxed (apart g))) ∙ later_bare (commuting Outside (boxed (apart g)))
