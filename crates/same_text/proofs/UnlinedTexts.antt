-- Tokens are written out without a look at their lines.
use Rattle.std.proofs.Common.{◌≡◌, false, true, List, [], ◌∷◌, refl, sym, ap, ◌∙◌}
use Rattle.c_grammar.specs.Terminal.{Terminal}
use Rattle.c_grammar.specs.Allocations.{allocated}
use Rattle.c_grammar.specs.Boxes.{announced, boxed}
use Rattle.c_grammar.specs.Blocks.{Items, nothing_read, in_blocks, typed}
use Rattle.c_grammar.specs.Changes.{begin, in_full}
use Rattle.c_grammar.specs.Constants.{undefined, worked}
use Rattle.c_grammar.specs.Functions.{expanded}
use Rattle.c_grammar.specs.Pointers.{pointed}
use Rattle.c_grammar.specs.Loops.{looped}
use Rattle.c_grammar.specs.Triangles.{rectangular}
use Rattle.c_grammar.specs.Structs.{in_rows}
use Rattle.c_grammar.specs.Choices.{chosen}
use Rattle.c_grammar.specs.Conditions.{decided}
use Rattle.c_grammar.specs.Grids.{flat}
use Rattle.c_grammar.specs.Counters.{counted}
use Rattle.c_grammar.specs.Descents.{upward}
use Rattle.c_grammar.specs.Devices.{on_devices}
use Rattle.c_grammar.specs.MainArrays.{lifted}
use Rattle.c_grammar.specs.Locals.{in_scalars}
use Rattle.c_grammar.specs.Privates.{owned}
use Rattle.c_grammar.specs.Shared.{apart, awaited, unshared}
use Rattle.c_grammar.specs.Lasting.{lasting}
use Rattle.c_grammar.specs.Unset.{zeroed}
use Rattle.c_grammar.specs.Declarations.{Other, settled}
use Rattle.c_grammar.specs.Updates.{Outside, commuting}
use Rattle.c_grammar.specs.Initial.{initialized, no_globals}
use Rattle.c_grammar.specs.Nesting.{nested}
use Rattle.c_grammar.specs.Sequences.{in_parts}
use Rattle.c_grammar.specs.Macros.{replaced}
use Rattle.c_grammar.specs.DeclaredFunctions.{undeclared}
use Rattle.c_grammar.specs.Needless.{needed}
use Rattle.c_grammar.specs.Types.{of_one_type}
use Rattle.c_grammar.specs.Prints.{printed}
use Rattle.c_grammar.specs.Source as forms
use Rattle.c_source.specs.Source.{written_out}
use Rattle.c_ints.specs.Ints.{widened}
use Rattle.c_temporaries.specs.Temporaries.{in_place}
use Rattle.erasure.proofs.Spelled.{kinds_in}
use Rattle.same_text.proofs.Unlined.{all_unlined, AreUnlined, typed_unlined, blocks_unlined}
use Rattle.same_text.proofs.UnlinedNesting.{nested_unlined}
use Rattle.same_text.proofs.UnlinedSequences.{parts_all_unlined}
use Rattle.same_text.proofs.UnlinedMacros.{replaced_unlined}
use Rattle.same_text.proofs.UnlinedDeclaredFunctions.{undeclared_unlined}
use Rattle.same_text.proofs.UnlinedNeedless.{needed_unlined}
use Rattle.same_text.proofs.UnlinedTypes.{types_unlined}
use Rattle.same_text.proofs.UnlinedPrints.{printed_unlined}
use Rattle.same_text.proofs.UnlinedConstants.{worked_unlined}
use Rattle.same_text.proofs.UnlinedFunctions.{expanded_unlined}
use Rattle.same_text.proofs.UnlinedPointers.{pointed_unlined}
use Rattle.same_text.proofs.UnlinedLoops.{looped_unlined}
use Rattle.same_text.proofs.UnlinedTriangles.{rectangular_unlined}
use Rattle.same_text.proofs.UnlinedStructs.{rows_unlined}
use Rattle.same_text.proofs.UnlinedChoices.{chosen_unlined}
use Rattle.same_text.proofs.UnlinedConditions.{decided_unlined}
use Rattle.same_text.proofs.UnlinedGrids.{flat_unlined}
use Rattle.same_text.proofs.UnlinedLasting.{lasting_unlined}
use Rattle.same_text.proofs.UnlinedCounters.{counted_unlined, zeroed_unlined}
use Rattle.same_text.proofs.UnlinedDescents.{upward_unlined}
use Rattle.same_text.proofs.UnlinedDevices.{devices_unlined}
use Rattle.same_text.proofs.UnlinedMainArrays.{lifted_unlined}
use Rattle.same_text.proofs.UnlinedLocals.{scalars_unlined_all}
use Rattle.same_text.proofs.UnlinedPrivates.{owned_unlined}
use Rattle.same_text.proofs.UnlinedDeclarations.{settled_unlined}
use Rattle.same_text.proofs.UnlinedBoxes.{announced_unlined, boxed_unlined}
use Rattle.same_text.proofs.UnlinedUpdates.{commuting_unlined}
use Rattle.same_text.proofs.UnlinedDropped.{undefined_unlined}
use Rattle.same_text.proofs.UnlinedAllocations.{allocated_unlined}
use Rattle.same_text.proofs.UnlinedGlobals.{initialized_unlined}
use Rattle.same_text.proofs.UnlinedChanges.{full_unlined}
use Rattle.same_text.proofs.UnlinedTemporaries.{place_unlined}
use Rattle.same_text.proofs.UnlinedInts.{widened_unlined}
use Rattle.same_text.proofs.UnlinedShared.{apart_unlined, awaited_unlined, unshared_unlined}

-- what follows the constants
later_unlined : (is : Items) →
    AreUnlined (on_devices (announced (in_full begin 0 (initialized no_globals 0 (allocated (all_unlined is))))))
    (on_devices (announced (in_full begin 0 (initialized no_globals 0 (allocated is)))))
later_unlined is =
    let whole : Items → Items = λ js. on_devices (announced js) in
    ap (λ (js : Items). whole (in_full begin 0 (initialized no_globals 0 js))) (allocated_unlined is)
    ∙ ap (λ (js : Items). whole (in_full begin 0 js)) (initialized_unlined (allocated is) no_globals 0)
    ∙ ap whole (full_unlined (initialized no_globals 0 (allocated is)) begin 0)
    ∙ ap on_devices (announced_unlined (in_full begin 0 (initialized no_globals 0 (allocated is))))
    ∙ devices_unlined (announced (in_full begin 0 (initialized no_globals 0 (allocated is))))

-- before temporaries are put in their places
forms_unlined : (is : Items) → AreUnlined (forms.written_out (all_unlined is)) (forms.written_out is)
forms_unlined is =
    let m : Items = replaced is in
    let z : Items = in_parts m in
    let n : Items = nested z in
    let p : Items = printed 0 n in
    let a : Items = typed 0 p in
    let needs : Items = needed a in
    let s : Items = in_rows needs in
    let u : Items = undeclared false s in
    let one_type : Items = of_one_type u in
    let b : Items = in_blocks nothing_read one_type in
    let t : Items = unshared b in
    let l : Items = counted t in
    let v : Items = upward l in
    let o : Items = owned v in
    let w : Items = lasting o in
    let d : Items = settled Other (zeroed w) in
    let c : Items = worked [] [] 0 d in
    let q : Items = pointed c in
    let e : Items = expanded q in
    let y : Items = decided e in
    let x : Items = looped y in
    let h : Items = rectangular x in
    let j : Items = lifted h in
    let i : Items = awaited j in
    let k : Items = in_scalars i in
    let f : Items = chosen k in
    let r : Items = flat true [] [] [] 0 (undefined [] 0 0 f) in
    let g : Items = flat false [] [] [] 0 r in
    let later : Items → Items = λ js. on_devices (announced (in_full begin 0 (initialized no_globals 0 (allocated js)))) in
    let since_boxes : Items → Items = λ js. later (commuting Outside js) in
    let since_updates : Items → Items = λ js. since_boxes (boxed js) in
    let since_apart : Items → Items = λ js. since_updates (apart js) in
    let since_rows : Items → Items = λ js. since_apart (flat false [] [] [] 0 js) in
    let since_grids : Items → Items = λ js. since_rows (flat true [] [] [] 0 js) in
    let since_defined : Items → Items = λ js. since_grids (undefined [] 0 0 js) in
    let since_loops : Items → Items = λ js. since_defined (chosen (in_scalars (awaited (lifted (rectangular js))))) in
    let since_declared : Items → Items = λ js.
    since_loops (looped (decided (expanded (pointed (worked [] [] 0 js))))) in
    let since_zeroed : Items → Items = λ js. since_declared (settled Other js) in
    let since_upward : Items → Items = λ js. since_zeroed (zeroed (lasting (owned js))) in
    let since_counted : Items → Items = λ js. since_upward (upward js) in
    let since_shared : Items → Items = λ js. since_counted (counted js) in
    let since_blocks : Items → Items = λ js. since_shared (unshared js) in
    let since_structs : Items → Items = λ js.
    since_blocks (in_blocks nothing_read (of_one_type (undeclared false js))) in
    let since_typed : Items → Items = λ js. since_structs (in_rows (needed js)) in
    ap (λ (js : Items). since_typed (typed 0 (printed 0 (nested (in_parts js))))) (replaced_unlined is)
    ∙ ap (λ (js : Items). since_typed (typed 0 (printed 0 (nested js)))) (parts_all_unlined m)
    ∙ ap (λ (js : Items). since_typed (typed 0 (printed 0 js))) (nested_unlined z)
    ∙ ap (λ (js : Items). since_typed (typed 0 js)) (printed_unlined n 0)
    ∙ ap since_typed (typed_unlined p 0)
    ∙ ap (λ (js : Items). since_structs (in_rows js)) (needed_unlined a)
    ∙ ap since_structs (rows_unlined needs)
    ∙ ap (λ (js : Items). since_blocks (in_blocks nothing_read (of_one_type js))) (undeclared_unlined s false)
    ∙ ap (λ (js : Items). since_blocks (in_blocks nothing_read js)) (types_unlined u)
    ∙ ap since_blocks (blocks_unlined one_type nothing_read)
    ∙ ap since_shared (unshared_unlined b)
    ∙ ap since_counted (counted_unlined t)
    ∙ ap since_upward (upward_unlined l)
    ∙ ap (λ (js : Items). since_zeroed (zeroed (lasting js))) (owned_unlined v)
    ∙ ap (λ (js : Items). since_zeroed (zeroed js)) (lasting_unlined o)
    ∙ ap since_zeroed (zeroed_unlined w)
    ∙ ap since_declared (settled_unlined (zeroed w) Other)
    ∙ ap (λ (js : Items). since_loops (looped (decided (expanded (pointed js))))) (worked_unlined d [] [] 0)
    ∙ ap (λ (js : Items). since_loops (looped (decided (expanded js)))) (pointed_unlined c)
    ∙ ap (λ (js : Items). since_loops (looped (decided js))) (expanded_unlined q)
    ∙ ap (λ (js : Items). since_loops (looped js)) (decided_unlined e)
    ∙ ap since_loops (looped_unlined y)
    ∙ ap (λ (js : Items). since_defined (chosen (in_scalars (awaited (lifted js))))) (rectangular_unlined x)
    ∙ ap (λ (js : Items). since_defined (chosen (in_scalars (awaited js)))) (lifted_unlined h)
    ∙ ap (λ (js : Items). since_defined (chosen (in_scalars js))) (awaited_unlined j)
    ∙ ap (λ (js : Items). since_defined (chosen js)) (scalars_unlined_all i)
    ∙ ap since_defined (chosen_unlined k)
    ∙ ap since_grids (undefined_unlined f [] 0 0)
    ∙ ap since_rows (flat_unlined (undefined [] 0 0 f) true [] [] [] 0)
    ∙ ap since_apart (flat_unlined r false [] [] [] 0)
    ∙ ap since_updates (apart_unlined g)
    ∙ ap since_boxes (boxed_unlined (apart g))
    ∙ ap later (commuting_unlined (boxed (apart g)) Outside) ∙ later_unlined (commuting Outside (boxed (apart g)))

written_unlined : (is : Items) → AreUnlined (written_out (all_unlined is)) (written_out is)
written_unlined is =
    ap widened (ap in_place (forms_unlined is) ∙ place_unlined (forms.written_out is))
    ∙ widened_unlined (in_place (forms.written_out is))

kinds_unlined : (is : Items) → kinds_in is ≡ kinds_in (all_unlined is)
kinds_unlined [] = refl
kinds_unlined (i ∷ is) = ap (λ (ts : List Terminal). i.terminal ∷ ts) (kinds_unlined is)

pub written_kinds : (is : Items) → kinds_in (written_out is) ≡ kinds_in (written_out (all_unlined is))
written_kinds is = kinds_unlined (written_out is) ∙ ap kinds_in (sym (written_unlined is))
