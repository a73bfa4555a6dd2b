use Rattle.std.proofs.Common.{◌≡◌, ◌∙◌, IfOk, [], ap, false, true, map, subst}
use Rattle.c_tokens.specs.Text.{tokens_of}
use Rattle.c_grammar.specs.Allocations.{allocated}
use Rattle.c_grammar.specs.Blocks.{Items, in_blocks, nothing_read, typed}
use Rattle.c_grammar.specs.Boxes.{announced, boxed}
use Rattle.c_grammar.specs.Changes.{begin, in_full}
use Rattle.c_grammar.specs.Choices.{chosen}
use Rattle.c_grammar.specs.Conditions.{decided}
use Rattle.c_grammar.specs.Constants.{undefined, worked}
use Rattle.c_grammar.specs.Counters.{counted}
use Rattle.c_grammar.specs.Declarations.{Other, settled}
use Rattle.c_grammar.specs.DeclaredFunctions.{undeclared}
use Rattle.c_grammar.specs.Descents.{upward}
use Rattle.c_grammar.specs.Devices.{on_devices}
use Rattle.c_grammar.specs.Functions.{expanded}
use Rattle.c_grammar.specs.Grids.{flat}
use Rattle.c_grammar.specs.Initial.{initialized, no_globals}
use Rattle.c_grammar.specs.Lasting.{lasting}
use Rattle.c_grammar.specs.Locals.{in_scalars}
use Rattle.c_grammar.specs.Loops.{looped}
use Rattle.c_grammar.specs.Macros.{replaced}
use Rattle.c_grammar.specs.MainArrays.{lifted}
use Rattle.c_grammar.specs.Needless.{needed}
use Rattle.c_grammar.specs.Nesting.{nested}
use Rattle.c_grammar.specs.Pointers.{pointed}
use Rattle.c_grammar.specs.Prints.{printed}
use Rattle.c_grammar.specs.Privates.{owned}
use Rattle.c_grammar.specs.Sequences.{in_parts}
use Rattle.c_grammar.specs.Shared.{apart, awaited, unshared}
use Rattle.c_grammar.specs.Source.{item_of}
use Rattle.c_grammar.specs.Structs.{in_rows}
use Rattle.c_grammar.specs.Triangles.{rectangular}
use Rattle.c_grammar.specs.Types.{of_one_type}
use Rattle.c_grammar.specs.Unset.{zeroed}
use Rattle.c_grammar.specs.Updates.{Outside, commuting}
use Rattle.c_terminals.specs.Held.{written_all}
use Rattle.c_terminals.specs.Seen.{seen_all}
use Rattle.c_written.proofs.source.written.Goals as goal

pub returns : goal.returns
returns c =
    let raw : Items = map (item_of c.args.bytes.now) (tokens_of c.args.bytes.now) in
    let constants : Items → Items = λ is.
    worked [] [] 0 (settled Other (zeroed (lasting (owned (upward (counted (unshared (in_blocks nothing_read
    (of_one_type (undeclared false (in_rows (needed (typed 0 (printed 0 (nested (in_parts (replaced is))))))))))))))))) in
    let calls : Items → Items = λ is.
    expanded (pointed is) in
    let rows : Items → Items = λ is.
    flat false [] [] [] 0 (flat true [] [] [] 0 (undefined [] 0 0 (chosen (in_scalars (awaited (lifted (rectangular
    (looped (decided is))))))))) in
    let changes : Items → Items = λ is.
    announced (in_full begin 0 (initialized no_globals 0 (allocated (commuting Outside (boxed (apart is)))))) in
    let s1 : written_all c.deref.result.now ≡ raw = ap written_all c.deref.ensures.value ∙ c.in_ok-raw.ensures in
    let s2 : written_all c.deref-2.result.now ≡ constants raw =
    ap written_all c.deref-2.ensures.value ∙ c.in_ok-worked.ensures ∙ ap constants s1 in
    let s3 : written_all c.deref-3.result.now ≡ calls (constants raw) =
    ap written_all c.deref-3.ensures.value ∙ c.in_ok-called.ensures ∙ ap calls s2 in
    let s4 : written_all c.deref-4.result.now ≡ rows (calls (constants raw)) =
    ap written_all c.deref-4.ensures.value ∙ c.in_ok-rows.ensures ∙ ap rows s3 in
    let s5 : written_all c.deref-5.result.now ≡ changes (rows (calls (constants raw))) =
    ap written_all c.deref-5.ensures.value ∙ c.in_ok-changed.ensures ∙ ap changes s4 in
    let s6 : seen_all c.deref-6.result.now ≡ changes (rows (calls (constants raw))) =
    ap seen_all c.deref-6.ensures.value ∙ c.in_ok-tokens.ensures ∙ s5 in
    subst (λ (is : Items). IfOk c.on_devices.result (λ v. written_all v.items ≡ on_devices is)) s6 c.on_devices.ensures
