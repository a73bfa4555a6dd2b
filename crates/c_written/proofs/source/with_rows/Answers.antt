use Rattle.std.proofs.Common.{◌≡◌, ◌∙◌, IfOk, [], ap, false, true, subst}
use Rattle.c_grammar.specs.Blocks.{Items}
use Rattle.c_grammar.specs.Choices.{chosen}
use Rattle.c_grammar.specs.Conditions.{decided}
use Rattle.c_grammar.specs.Constants.{undefined}
use Rattle.c_grammar.specs.Grids.{flat}
use Rattle.c_grammar.specs.Locals.{in_scalars}
use Rattle.c_grammar.specs.Loops.{looped}
use Rattle.c_grammar.specs.MainArrays.{lifted}
use Rattle.c_grammar.specs.Shared.{awaited}
use Rattle.c_grammar.specs.Triangles.{rectangular}
use Rattle.c_terminals.specs.Held.{written_all}
use Rattle.c_terminals.specs.Seen.{seen_all}
use Rattle.c_written.proofs.source.with_rows.Goals as goal

pub returns : goal.returns
returns c =
    let e0 : Items = written_all c.args.called.now in
    let s1 : seen_all c.deref.result.now ≡ e0 =
    ap seen_all c.deref.ensures.value ∙ c.in_ok-tokens.ensures in
    let e2 : Items = decided e0 in
    let s2 : written_all c.deref-2.result.now ≡ e2 =
    ap written_all c.deref-2.ensures.value ∙ c.in_ok-tokens-2.ensures
    ∙ ap (λ (is : Items). decided is) s1 in
    let s3 : seen_all c.deref-3.result.now ≡ e2 =
    ap seen_all c.deref-3.ensures.value ∙ c.in_ok-tokens-3.ensures ∙ s2 in
    let e4 : Items = looped e2 in
    let s4 : seen_all c.deref-4.result.now ≡ e4 =
    ap seen_all c.deref-4.ensures.value ∙ c.in_ok-tokens-4.ensures
    ∙ ap (λ (is : Items). looped is) s3 in
    let e5 : Items = rectangular e4 in
    let s5 : seen_all c.deref-5.result.now ≡ e5 =
    ap seen_all c.deref-5.ensures.value ∙ c.in_ok-tokens-5.ensures
    ∙ ap (λ (is : Items). rectangular is) s4 in
    let e6 : Items = lifted e5 in
    let s6 : seen_all c.deref-6.result.now ≡ e6 =
    ap seen_all c.deref-6.ensures.value ∙ c.in_ok-tokens-6.ensures
    ∙ ap (λ (is : Items). lifted is) s5 in
    let e7 : Items = awaited e6 in
    let s7 : written_all c.deref-7.result.now ≡ e7 =
    ap written_all c.deref-7.ensures.value ∙ c.in_ok-tokens-7.ensures
    ∙ ap (λ (is : Items). awaited is) s6 in
    let s8 : seen_all c.deref-8.result.now ≡ e7 =
    ap seen_all c.deref-8.ensures.value ∙ c.in_ok-tokens-8.ensures ∙ s7 in
    let e9 : Items = in_scalars e7 in
    let s9 : written_all c.deref-9.result.now ≡ e9 =
    ap written_all c.deref-9.ensures.value ∙ c.in_ok-tokens-9.ensures
    ∙ ap (λ (is : Items). in_scalars is) s8 in
    let s10 : seen_all c.deref-10.result.now ≡ e9 =
    ap seen_all c.deref-10.ensures.value ∙ c.in_ok-tokens-10.ensures ∙ s9 in
    let e11 : Items = chosen e9 in
    let s11 : seen_all c.deref-11.result.now ≡ e11 =
    ap seen_all c.deref-11.ensures.value ∙ c.in_ok-tokens-11.ensures
    ∙ ap (λ (is : Items). chosen is) s10 in
    let e12 : Items = undefined [] 0 0 e11 in
    let s12 : seen_all c.deref-12.result.now ≡ e12 =
    ap seen_all c.deref-12.ensures.value ∙ c.in_ok-tokens-12.ensures
    ∙ ap (λ (is : Items). undefined [] 0 0 is) s11 in
    let e13 : Items = flat true [] [] [] 0 e12 in
    let s13 : written_all c.deref-13.result.now ≡ e13 =
    ap written_all c.deref-13.ensures.value ∙ c.in_ok-tokens-13.ensures
    ∙ ap (λ (is : Items). flat true [] [] [] 0 is) s12 in
    let s14 : seen_all c.deref-14.result.now ≡ e13 =
    ap seen_all c.deref-14.ensures.value ∙ c.in_ok-tokens-14.ensures ∙ s13 in
    subst (λ (is : Items). IfOk c.flat-2.result (λ v. written_all v.items ≡ flat false [] [] [] 0 is)) s14 c.flat-2.ensures
