use Rattle.std.proofs.Common.{◌≡◌, ◌∙◌, IfOk, [], ap, false, subst}
use Rattle.c_grammar.specs.Blocks.{Items, in_blocks, nothing_read, typed}
use Rattle.c_grammar.specs.Constants.{worked}
use Rattle.c_grammar.specs.Counters.{counted}
use Rattle.c_grammar.specs.Declarations.{Other, settled}
use Rattle.c_grammar.specs.DeclaredFunctions.{undeclared}
use Rattle.c_grammar.specs.Descents.{upward}
use Rattle.c_grammar.specs.Lasting.{lasting}
use Rattle.c_grammar.specs.Macros.{replaced}
use Rattle.c_grammar.specs.Needless.{needed}
use Rattle.c_grammar.specs.Nesting.{nested}
use Rattle.c_grammar.specs.Prints.{printed}
use Rattle.c_grammar.specs.Privates.{owned}
use Rattle.c_grammar.specs.Sequences.{in_parts}
use Rattle.c_grammar.specs.Shared.{unshared}
use Rattle.c_grammar.specs.Structs.{in_rows}
use Rattle.c_grammar.specs.Types.{of_one_type}
use Rattle.c_grammar.specs.Unset.{zeroed}
use Rattle.c_terminals.specs.Held.{written_all}
use Rattle.c_terminals.specs.Seen.{seen_all}
use Rattle.c_written.proofs.source.with_constants.Goals as goal

pub returns : goal.returns
returns c =
    let e0 : Items = written_all c.args.raw.now in
    let s1 : seen_all c.deref.result.now ≡ e0 =
    ap seen_all c.deref.ensures.value ∙ c.in_ok-tokens.ensures in
    let e2 : Items = replaced e0 in
    let s2 : seen_all c.deref-2.result.now ≡ e2 =
    ap seen_all c.deref-2.ensures.value ∙ c.in_ok-tokens-2.ensures
    ∙ ap (λ (is : Items). replaced is) s1 in
    let e3 : Items = in_parts e2 in
    let s3 : written_all c.deref-3.result.now ≡ e3 =
    ap written_all c.deref-3.ensures.value ∙ c.in_ok-tokens-3.ensures
    ∙ ap (λ (is : Items). in_parts is) s2 in
    let s4 : seen_all c.deref-4.result.now ≡ e3 =
    ap seen_all c.deref-4.ensures.value ∙ c.in_ok-tokens-4.ensures ∙ s3 in
    let e5 : Items = nested e3 in
    let s5 : written_all c.deref-5.result.now ≡ e5 =
    ap written_all c.deref-5.ensures.value ∙ c.in_ok-tokens-5.ensures
    ∙ ap (λ (is : Items). nested is) s4 in
    let s6 : seen_all c.deref-6.result.now ≡ e5 =
    ap seen_all c.deref-6.ensures.value ∙ c.in_ok-tokens-6.ensures ∙ s5 in
    let e7 : Items = printed 0 e5 in
    let s7 : seen_all c.deref-7.result.now ≡ e7 =
    ap seen_all c.deref-7.ensures.value ∙ c.in_ok-tokens-7.ensures
    ∙ ap (λ (is : Items). printed 0 is) s6 in
    let e8 : Items = typed 0 e7 in
    let s8 : seen_all c.deref-8.result.now ≡ e8 =
    ap seen_all c.deref-8.ensures.value ∙ c.in_ok-tokens-8.ensures
    ∙ ap (λ (is : Items). typed 0 is) s7 in
    let e9 : Items = needed e8 in
    let s9 : seen_all c.deref-9.result.now ≡ e9 =
    ap seen_all c.deref-9.ensures.value ∙ c.in_ok-tokens-9.ensures
    ∙ ap (λ (is : Items). needed is) s8 in
    let e10 : Items = in_rows e9 in
    let s10 : seen_all c.deref-10.result.now ≡ e10 =
    ap seen_all c.deref-10.ensures.value ∙ c.in_ok-tokens-10.ensures
    ∙ ap (λ (is : Items). in_rows is) s9 in
    let e11 : Items = undeclared false e10 in
    let s11 : seen_all c.deref-11.result.now ≡ e11 =
    ap seen_all c.deref-11.ensures.value ∙ c.in_ok-tokens-11.ensures
    ∙ ap (λ (is : Items). undeclared false is) s10 in
    let e12 : Items = of_one_type e11 in
    let s12 : seen_all c.deref-12.result.now ≡ e12 =
    ap seen_all c.deref-12.ensures.value ∙ c.in_ok-tokens-12.ensures
    ∙ ap (λ (is : Items). of_one_type is) s11 in
    let e13 : Items = in_blocks nothing_read e12 in
    let s13 : seen_all c.deref-13.result.now ≡ e13 =
    ap seen_all c.deref-13.ensures.value ∙ c.in_ok-tokens-13.ensures
    ∙ ap (λ (is : Items). in_blocks nothing_read is) s12 in
    let e14 : Items = unshared e13 in
    let s14 : written_all c.deref-14.result.now ≡ e14 =
    ap written_all c.deref-14.ensures.value ∙ c.in_ok-tokens-14.ensures
    ∙ ap (λ (is : Items). unshared is) s13 in
    let s15 : seen_all c.deref-15.result.now ≡ e14 =
    ap seen_all c.deref-15.ensures.value ∙ c.in_ok-tokens-15.ensures ∙ s14 in
    let e16 : Items = counted e14 in
    let s16 : seen_all c.deref-16.result.now ≡ e16 =
    ap seen_all c.deref-16.ensures.value ∙ c.in_ok-tokens-16.ensures
    ∙ ap (λ (is : Items). counted is) s15 in
    let e17 : Items = upward e16 in
    let s17 : written_all c.deref-17.result.now ≡ e17 =
    ap written_all c.deref-17.ensures.value ∙ c.in_ok-tokens-17.ensures
    ∙ ap (λ (is : Items). upward is) s16 in
    let s18 : seen_all c.deref-18.result.now ≡ e17 =
    ap seen_all c.deref-18.ensures.value ∙ c.in_ok-tokens-18.ensures ∙ s17 in
    let e19 : Items = owned e17 in
    let s19 : written_all c.deref-19.result.now ≡ e19 =
    ap written_all c.deref-19.ensures.value ∙ c.in_ok-tokens-19.ensures
    ∙ ap (λ (is : Items). owned is) s18 in
    let s20 : seen_all c.deref-20.result.now ≡ e19 =
    ap seen_all c.deref-20.ensures.value ∙ c.in_ok-tokens-20.ensures ∙ s19 in
    let e21 : Items = lasting e19 in
    let s21 : seen_all c.deref-21.result.now ≡ e21 =
    ap seen_all c.deref-21.ensures.value ∙ c.in_ok-tokens-21.ensures
    ∙ ap (λ (is : Items). lasting is) s20 in
    let e22 : Items = zeroed e21 in
    let s22 : seen_all c.deref-22.result.now ≡ e22 =
    ap seen_all c.deref-22.ensures.value ∙ c.in_ok-tokens-22.ensures
    ∙ ap (λ (is : Items). zeroed is) s21 in
    let e23 : Items = settled Other e22 in
    let s23 : seen_all c.deref-23.result.now ≡ e23 =
    ap seen_all c.deref-23.ensures.value ∙ c.in_ok-tokens-23.ensures
    ∙ ap (λ (is : Items). settled Other is) s22 in
    subst (λ (is : Items). IfOk c.worked.result (λ v. written_all v.items ≡ worked [] [] 0 is)) s23 c.worked.ensures
