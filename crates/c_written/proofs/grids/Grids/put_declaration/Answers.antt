use Rattle.std.proofs.Common.{◌≡◌, ◌∙◌, ◌∷◌, [], List, ℕ, Some, ap, false, subst, sym}
use Rattle.std.specs.Option.{is_some}
use Rattle.std.proofs.lemmas.Result.{on_ok_weaker}
use Rattle.c_grammar.specs.Blocks.{Items}
use Rattle.c_grammar.specs.Constants.{with_terminal}
use Rattle.c_grammar.specs.Grids.{declared, flat_declaration}
use Rattle.c_grammar.specs.Terminal.{Terminal, Num}
use Rattle.c_grammar.specs.Texts.{Item}
use Rattle.c_terminals.specs.declared.token.Token.{Token}
use Rattle.c_terminals.specs.Ahead.{ahead}
use Rattle.c_written.specs.Grids.{HasPut}
use Rattle.c_terminals.specs.Seen.{columns_in, seen}
use Rattle.c_written.proofs.Flattening.{number_alone, put_more}
use Rattle.c_written.proofs.grids.Grids.put_declaration.Goals as goal

abbrev placed : Terminal → Token → List ℕ → Item Terminal
placed t token columns = record { terminal = t; line = token.line; column = token.column; columns = columns }

pub returns : goal.returns
returns c =
    let s = c.in-Some.array in
    let all = c.in-Some.ensures.all in
    let alone : columns_in s.third.terminal ≡ [] =
    number_alone _ (seen s.first).terminal (seen s.sixth).terminal s.third.terminal
    (ap (λ (is : Items). is_some (declared false is)) (sym all) ∙ c.requires) in
    let number : Item Terminal = seen s.third in
    let cells : seen c.at.result ≡ with_terminal number (Num (Some c.args.cells)) =
    c.at.ensures
    ∙ ap (placed (Num (Some c.args.cells)) s.third) (sym alone) in
    let same : seen s.first ∷ seen s.second ∷ seen c.at.result ∷ seen s.fourth ∷ []
    ≡ flat_declaration c.args.cells (ahead c.args.start) =
    ap (λ (i : Item Terminal). seen s.first ∷ seen s.second ∷ i ∷ seen s.fourth ∷ []) cells
    ∙ ap (flat_declaration c.args.cells) (sym all) in
    on_ok_weaker c.put-4.result
    (λ h. subst (λ (is : Items). HasPut c.args.self.now is c.put-4.new.self) same
    (put_more _ _ _ _ _
    (put_more _ _ _ _ _ (put_more _ _ _ _ _ c.in_ok-put.ensures c.in_ok-put-2.ensures) c.in_ok-put-3.ensures) h))
    c.put-4.ensures
