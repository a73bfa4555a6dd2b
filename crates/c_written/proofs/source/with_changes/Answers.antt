use Rattle.std.proofs.Common.{◌≡◌, ◌∙◌, IfOk, ap, subst}
use Rattle.c_grammar.specs.Allocations.{allocated}
use Rattle.c_grammar.specs.Blocks.{Items}
use Rattle.c_grammar.specs.Boxes.{announced, boxed}
use Rattle.c_grammar.specs.Changes.{begin, in_full}
use Rattle.c_grammar.specs.Initial.{initialized, no_globals}
use Rattle.c_grammar.specs.Shared.{apart}
use Rattle.c_grammar.specs.Updates.{Outside, commuting}
use Rattle.c_terminals.specs.Held.{written_all}
use Rattle.c_terminals.specs.Seen.{seen_all}
use Rattle.c_written.proofs.source.with_changes.Goals as goal

pub returns : goal.returns
returns c =
    let e0 : Items = written_all c.args.rows.now in
    let s1 : seen_all c.deref.result.now ≡ e0 =
    ap seen_all c.deref.ensures.value ∙ c.in_ok-tokens.ensures in
    let e2 : Items = apart e0 in
    let s2 : written_all c.deref-2.result.now ≡ e2 =
    ap written_all c.deref-2.ensures.value ∙ c.in_ok-tokens-2.ensures
    ∙ ap (λ (is : Items). apart is) s1 in
    let s3 : seen_all c.deref-3.result.now ≡ e2 =
    ap seen_all c.deref-3.ensures.value ∙ c.in_ok-tokens-3.ensures ∙ s2 in
    let e4 : Items = boxed e2 in
    let s4 : written_all c.deref-4.result.now ≡ e4 =
    ap written_all c.deref-4.ensures.value ∙ c.in_ok-tokens-4.ensures
    ∙ ap (λ (is : Items). boxed is) s3 in
    let s5 : seen_all c.deref-5.result.now ≡ e4 =
    ap seen_all c.deref-5.ensures.value ∙ c.in_ok-tokens-5.ensures ∙ s4 in
    let e6 : Items = commuting Outside e4 in
    let s6 : written_all c.deref-6.result.now ≡ e6 =
    ap written_all c.deref-6.ensures.value ∙ c.in_ok-tokens-6.ensures
    ∙ ap (λ (is : Items). commuting Outside is) s5 in
    let s7 : seen_all c.deref-7.result.now ≡ e6 =
    ap seen_all c.deref-7.ensures.value ∙ c.in_ok-tokens-7.ensures ∙ s6 in
    let e8 : Items = allocated e6 in
    let s8 : written_all c.deref-8.result.now ≡ e8 =
    ap written_all c.deref-8.ensures.value ∙ c.in_ok-tokens-8.ensures
    ∙ ap (λ (is : Items). allocated is) s7 in
    let s9 : seen_all c.deref-9.result.now ≡ e8 =
    ap seen_all c.deref-9.ensures.value ∙ c.in_ok-tokens-9.ensures ∙ s8 in
    let e10 : Items = initialized no_globals 0 e8 in
    let s10 : seen_all c.deref-10.result.now ≡ e10 =
    ap seen_all c.deref-10.ensures.value ∙ c.in_ok-tokens-10.ensures
    ∙ ap (λ (is : Items). initialized no_globals 0 is) s9 in
    let e11 : Items = in_full begin 0 e10 in
    let s11 : seen_all c.deref-11.result.now ≡ e11 =
    ap seen_all c.deref-11.ensures.value ∙ c.in_ok-tokens-11.ensures
    ∙ ap (λ (is : Items). in_full begin 0 is) s10 in
    subst (λ (is : Items). IfOk c.announced.result (λ v. written_all v.items ≡ announced is)) s11 c.announced.ensures
