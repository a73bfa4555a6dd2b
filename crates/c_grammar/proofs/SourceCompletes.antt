-- Where the machine for sources has come, a text of the grammar goes on.
use Rattle.std.proofs.Common.{◌≡◌, ℕ, zero, suc, true, false, cond, List, [], ◌∷◌, ◌++◌, Option, Some, None, refl, sym, ap, subst, ◌∙◌, append_assoc, inl, inr}
use Rattle.std.proofs.lemmas.List.{append-nil}
use Rattle.c_tokens.specs.declared.kind.Sign.TheVariants as sign
use Rattle.base.specs.declared.fault.ReadCode.TheVariants.{NoBody}
use Rattle.c_grammar.specs.Lexeme.{Lexeme, Uint64, Int, Main, Void, For, If, Else, Print}
use Rattle.c_grammar.specs.Terminal.{Terminal, Fixed, Mark, Name, Num, Line, Unknown, Unworked, End, same}
use Rattle.c_grammar.specs.Lines.{is_boxing, is_omp, holds, is_atomic, depth_of}
use Rattle.c_grammar.specs.Grammar.{Plain, DeclaresGlobal, MakesArray, MakesScalar, Length, Starts, StartsIf, Prints, Assigned, StartsBlock, Otherwise, Opens, Closes, Alone, Over, Marks, Boxes, Slots, for, mark, word, Directive, stmt, IsStmt, Head, deeper, Stmts, Done, Then, stmts, AreStmts, body_opening, body_closing, end_mark, Global, Scalar, Array, Text, main_part, slots, IsText}
use Rattle.c_grammar.specs.Program.{Want, WantName, WantNum, Globals, AfterGlobal, Body, OrElse, Under, Nested, Turn, AfterMark, AfterName, Value, Atom, Behind, Tail, Fractional, Stack, m, body, loop, other_step, stmt_step, under_step, nested_step, main_rest, boxes_step, globals_step, after_global, advance, start}
use Rattle.c_grammar.proofs.Ways.{some_of}
use Rattle.c_grammar.proofs.Lexemes.{chosen, some_is}
use Rattle.c_grammar.proofs.Terminals.{tested}
use Rattle.c_grammar.proofs.Goes.{Goes}
use Rattle.c_grammar.proofs.Parts.{made, over, over_slots}
use Rattle.c_grammar.proofs.SourceFits.{IsHeld, Fits, default}
use Rattle.c_grammar.proofs.SourceBack.{Taken, Back, BackBelow, none, back_want, back_name, back_num, back_fractional, back_atom, back_behind, back_tail, back_value}
use Rattle.c_grammar.proofs.SourceStatements.{HasStmt, StmtBack, declare_fits, assign_fits, atomic_fits, repeat_fits, choose_fits, show_fits, block_fits, loop_fits, nested_fits, back_after_mark, back_after_name, back_turn}

-- ---- lines, and what follows them

over_is : (l : List Lexeme) (o : Option Head) (b : Stmts) → is_omp l ≡ true → holds l ≡ true → AreStmts b
    → IsHeld (depth_of l) o b → IsStmt (over l o b)
unfolding over
over_is l None b h k r n = (h, k, r, n)
over_is l (Some a) b h k r n = (h, k, r, n)

over_fits : (l : List Lexeme) (s : Stack) → is_omp l ≡ true → holds l ≡ true
    → StmtBack s (Line l) (for Over, Under (depth_of l) ∷ s)
over_fits l s h k ws f = (
  over l f.0 f.1,
  over_is l f.0 f.1 h k f.2 f.3,
  f.4,
  ap (λ (v : Slots). (Line l, for Over) ∷ v) f.5
      ∙ ap (λ (v : Slots). v ++ f.4) (sym (over_slots l f.0 f.1)),
  f.6,
)

back_held : (l : List Lexeme) (s : Stack) (q : Taken) → is_omp l ≡ true → is_atomic l ≡ false
    → cond (holds l) (some_of (for Over, Under (depth_of l) ∷ s)) (some_of (for Alone, s)) ≡ some_of q → StmtBack s (Line l) q
back_held l s q h n e =
    elim (chosen (holds l) (some_of (for Over, Under (depth_of l) ∷ s)) (some_of (for Alone, s)) (some_of q) e) [
      | inl k ↦ some_is (for Over, Under (depth_of l) ∷ s) q (λ p. StmtBack s (Line l) p) k.1 (over_fits l s h k.0)
      | inr k ↦ some_is (for Alone, s) q (λ p. StmtBack s (Line l) p) k.1
          (λ ws f. (Directive l, (h, k.0, n), ws, refl, f))
    ]

back_omp : (l : List Lexeme) (s : Stack) (q : Taken) → is_omp l ≡ true
    → cond (is_atomic l) (some_of (for Marks, AfterMark ∷ s))
    (cond (holds l) (some_of (for Over, Under (depth_of l) ∷ s)) (some_of (for Alone, s))) ≡ some_of q → StmtBack s (Line l) q
back_omp l s q h e =
    elim (chosen (is_atomic l) (some_of (for Marks, AfterMark ∷ s)) _ (some_of q) e) [
      | inl k ↦ some_is (for Marks, AfterMark ∷ s) q (λ p. StmtBack s (Line l) p) k.1 (atomic_fits l s h k.0)
      | inr k ↦ back_held l s q h k.0 k.1
    ]

back_line : (l : List Lexeme) (s : Stack) (q : Taken) → other_step s (Line l) ≡ some_of q → StmtBack s (Line l) q
back_line l s q e =
    elim (chosen (is_omp l) _ None (some_of q) e) [
      | inl h ↦ back_omp l s q h.0 h.1
      | inr h ↦ absurd cc
    ]

back_other : (s : Stack) (t : Terminal) (q : Taken) → other_step s t ≡ some_of q → StmtBack s t q
back_other s (Name x) q e =
    some_is (for Assigned, AfterName ∷ s) q (λ p. StmtBack s (Name x) p) e (assign_fits x s)
back_other s (Line l) q e = back_line l s q e
back_other s (Num a) q e = absurd cc
back_other s (Fixed a) q e = absurd cc
back_other s (Mark a) q e = absurd cc
back_other s Unknown q e = absurd cc
back_other s Unworked q e = absurd cc
back_other s End q e = absurd cc

held_block : (s : Stack) (ws : Slots) → Fits (Body ∷ s) ws
    → Fits (Under 0 ∷ s) ((Mark sign.OpenBrace, (Some NoBody, Opens)) ∷ ws)
held_block s ws f = (
  None,
  f.0,
  f.1,
  refl,
  f.2,
  ap (λ (v : Slots). (Mark sign.OpenBrace, (Some NoBody, Opens)) ∷ v)
      (f.3 ∙ sym (append_assoc (stmts f.0) (body_closing ∷ []) f.2)),
  f.4,
)

held_loop : (d : ℕ) (s : Stack) (ws : Slots) → Fits (loop (deeper d) s) ws
    → Fits (Under d ∷ s) ((Fixed For, (Some NoBody, Plain)) ∷ ws)
held_loop d s ws f =
    let h = loop_fits (deeper d) s ws f in
    (Some h.0, h.1, h.2, h.3, h.4, ap (λ (v : Slots). (Fixed For, (Some NoBody, Plain)) ∷ v) h.5, h.6)

back_under : (d : ℕ) (s : Stack) (t : Terminal) (q : Taken) → under_step d s t ≡ some_of q → Back (Under d) s t q
back_under zero s t q e =
    tested (Mark sign.OpenBrace) t ((Some NoBody, Opens), Body ∷ s) q _ (Back (Under 0) s) (held_block s)
    (λ e. tested (Fixed For) t ((Some NoBody, Plain), loop 0 s) q None (Back (Under 0) s) (held_loop 0 s)
    (none (Under 0) s t q) e) e
back_under (suc d) s t q e =
    tested (Fixed For) t ((Some NoBody, Plain), loop d s) q None (Back (Under (suc d)) s) (held_loop (suc d) s)
    (none (Under (suc d)) s t q) e

back_nested : (d : ℕ) (s : Stack) (t : Terminal) (q : Taken) → nested_step d s t ≡ some_of q → Back (Nested d) s t q
back_nested d s t q e =
    tested (Fixed For) t ((Some NoBody, Starts), loop d s) q None (Back (Nested d) s) (nested_fits d s)
    (none (Nested d) s t q) e

-- ---- bodies

back_stmt : (s : Stack) (t : Terminal) (q : Taken) → stmt_step s t ≡ some_of q → StmtBack s t q
back_stmt s t q e =
    tested (Fixed Uint64) t (for Starts, _) q _ (StmtBack s) (declare_fits s)
    (λ e. tested (Fixed For) t (for Starts, loop 0 s) q _ (StmtBack s) (repeat_fits s)
    (λ e. tested (Fixed If) t (for StartsIf, _) q _ (StmtBack s) (choose_fits s)
    (λ e. tested (Fixed Print) t (for Prints, _) q _ (StmtBack s) (show_fits s)
    (λ e. tested (Mark sign.OpenBrace) t (for StartsBlock, Body ∷ s) q (other_step s t) (StmtBack s) (block_fits s)
    (back_other s t q) e) e) e) e) e

-- one statement more
body_fits : (s : Stack) (ws : Slots) → HasStmt (Body ∷ s) ws → Fits (Body ∷ s) ws
body_fits s ws one =
    let rest = one.4 in
    let whole : ws ≡ stmt one.0 ++ (stmts rest.0 ++ (body_closing ∷ rest.2)) =
    one.3 ∙ ap (λ (v : Slots). stmt one.0 ++ v) rest.3 in (
      Then one.0 rest.0,
      (one.1, rest.1),
      rest.2,
      whole
          ∙ sym (append_assoc (stmt one.0) (stmts rest.0) (body_closing ∷ rest.2)),
      rest.4,
    )

back_body : (s : Stack) (t : Terminal) (q : Taken)
    → cond (same (Mark sign.CloseBrace) t) (some_of (for Closes, s)) (stmt_step (Body ∷ s) t) ≡ some_of q
    → Back Body s t q
back_body s t q e =
    tested (Mark sign.CloseBrace) t (for Closes, s) q (stmt_step (Body ∷ s) t) (Back Body s)
    (λ ws f. (Done, tt, ws, refl, f))
    (λ e ws f. body_fits s ((t, q.0) ∷ ws) (back_stmt (Body ∷ s) t q e ws f)) e

branch_fits : (s : Stack) (ws : Slots) → Fits (body s) ws → Fits (OrElse ∷ s) ((Fixed Else, for Otherwise) ∷ ws)
branch_fits s ws f =
    let b = f.2 in (
      Some b.0,
      b.1,
      b.2,
      ap (λ (v : Slots). (Fixed Else, for Otherwise) ∷ v)
          (f.1 ∙ ap (λ (v : Slots). body_opening ∷ v)
          (b.3 ∙ sym (append_assoc (stmts b.0) (body_closing ∷ []) b.2))),
      b.4,
    )

back_or_else : (s : Stack) (t : Terminal) (q : Taken) → BackBelow s t q
    → cond (same (Fixed Else) t) (some_of (for Otherwise, body s)) (advance s t) ≡ some_of q → Back OrElse s t q
back_or_else s t q ih e =
    tested (Fixed Else) t (for Otherwise, body s) q (advance s t) (Back OrElse s) (branch_fits s)
    (λ e ws f. (None, tt, (t, q.0) ∷ ws, refl, ih e ws f)) e

-- ---- the whole

array_fits : (s : Stack) (ws : Slots) → Fits (WantNum Length ∷ m sign.CloseBracket ∷ m sign.Semicolon ∷ s) ws
    → Fits (AfterGlobal ∷ s) ((Mark sign.OpenBracket, for MakesArray) ∷ ws)
array_fits s ws f =
    let close = f.3 in
    let last = close.2 in
    let e0 : ws ≡ (Num f.0, for Length) ∷ f.1 = f.2 in
    let e1 : f.1 ≡ mark sign.CloseBracket ∷ close.0 = close.1 in
    let e2 : close.0 ≡ end_mark ∷ last.0 = last.1 in
    (Some f.0, last.0, cc, last.2)

back_after_global : (s : Stack) (t : Terminal) (q : Taken) → after_global s t ≡ some_of q → Back AfterGlobal s t q
back_after_global s t q e =
    tested (Mark sign.OpenBracket) t (for MakesArray, _) q _ (Back AfterGlobal s) (array_fits s)
    (λ e. tested (Mark sign.Semicolon) t (for MakesScalar, s) q None (Back AfterGlobal s)
    (λ ws f. (None, ws, refl, f)) (none AfterGlobal s t q) e) e

-- main and what follows it
abbrev HasMain : Stack → Slots → Type 0
HasMain s ws = (b : Stmts) × AreStmts b × (v : Slots) × (ws ≡ main_part b ++ v) × Fits s v

main_has : (s : Stack) (ws : Slots) → Fits (main_rest s) ws → HasMain s (word Int ∷ ws)
main_has s ws f =
    let a1 = f.2 in let a2 = a1.2 in let a3 = a2.2 in let a4 = a3.2 in
    let b = a4.2 in
    let c = b.4 in
    let last : Slots = body_closing ∷ (End, for Plain) ∷ [] in
    let e0 : ws ≡ word Main ∷ f.0 = f.1 in
    let e1 : f.0 ≡ mark sign.OpenParen ∷ a1.0 = a1.1 in
    let e2 : a1.0 ≡ word Void ∷ a2.0 = a2.1 in
    let e3 : a2.0 ≡ mark sign.CloseParen ∷ a3.0 = a3.1 in
    let e4 : a3.0 ≡ body_opening ∷ a4.0 = a4.1 in
    let e5 : a4.0 ≡ stmts b.0 ++ (body_closing ∷ b.2) = b.3 in
    let e6 : b.2 ≡ (End, for Plain) ∷ c.0 = c.1 in
    let g : (stmts b.0 ++ last) ++ c.0 ≡ stmts b.0 ++ (body_closing ∷ (End, for Plain) ∷ c.0) =
    append_assoc (stmts b.0) last c.0 in
    (b.0, b.1, c.0, cc, c.2)

main_fits : (s : Stack) (ws : Slots) → Fits (main_rest s) ws → Fits (Globals ∷ s) (word Int ∷ ws)
main_fits s ws f =
    let has = main_has s ws f in
    let t : Text = record { globals = []; boxes = None; body = has.0 } in
    (t, (tt, has.1), has.2, has.3, has.4)

boxes_fits : (l : List Lexeme) → is_boxing l ≡ true → (s : Stack) (ws : Slots)
    → Fits (Want (Fixed Int) (for Plain) ∷ main_rest s) ws → Fits (Globals ∷ s) ((Line l, for Boxes) ∷ ws)
boxes_fits l h s ws f =
    let has = main_has s f.0 f.2 in
    let t : Text = record { globals = []; boxes = Some l; body = has.0 } in
    (t, (h, has.1), has.2, ap (λ (v : Slots). (Line l, for Boxes) ∷ v) (f.1 ∙ has.3), has.4)

global_of : List ℕ → Option (Option ℕ) → Global
global_of x None = Scalar x
global_of x (Some n) = Array x n

abbrev with_global : Global → Text → Text
with_global g t = record { globals = g ∷ t.globals; boxes = t.boxes; body = t.body }

global_slots : (x : List ℕ) (n : Option (Option ℕ)) (t : Text) (v : Slots)
    → word Uint64 ∷ (Name x, for DeclaresGlobal) ∷ (made n ++ (slots t ++ v)) ≡ slots (with_global (global_of x n) t) ++ v
unfolding global_of
global_slots x None t v = refl
global_slots x (Some n) t v = refl

global_fits : (s : Stack) (ws : Slots) → Fits (WantName DeclaresGlobal ∷ AfterGlobal ∷ Globals ∷ s) ws
    → Fits (Globals ∷ s) (word Uint64 ∷ ws)
global_fits s ws f =
    let kind = f.3 in
    let rest = kind.3 in
    let path : ws ≡ (Name f.0, for DeclaresGlobal) ∷ (made kind.0 ++ (slots rest.0 ++ rest.2)) =
    f.2 ∙ ap (λ (v : Slots). (Name f.0, for DeclaresGlobal) ∷ v)
    (kind.2 ∙ ap (λ (v : Slots). made kind.0 ++ v) rest.3) in (
      with_global (global_of f.0 kind.0) rest.0,
      rest.1,
      rest.2,
      ap (λ (v : Slots). word Uint64 ∷ v) path
          ∙ global_slots f.0 kind.0 rest.0 rest.2,
      rest.4,
    )

back_boxes : (s : Stack) (t : Terminal) (q : Taken) → boxes_step s t ≡ some_of q → Back Globals s t q
back_boxes s (Line l) q e =
    elim (chosen (is_boxing l) (some_of (for Boxes, Want (Fixed Int) (for Plain) ∷ main_rest s)) None (some_of q) e) [
      | inl h ↦ some_is (for Boxes, Want (Fixed Int) (for Plain) ∷ main_rest s) q (λ p. Back Globals s (Line l) p) h.1
          (boxes_fits l h.0 s)
      | inr h ↦ absurd cc
    ]
back_boxes s (Name x) q e = absurd cc
back_boxes s (Num a) q e = absurd cc
back_boxes s (Fixed a) q e = absurd cc
back_boxes s (Mark a) q e = absurd cc
back_boxes s Unknown q e = absurd cc
back_boxes s Unworked q e = absurd cc
back_boxes s End q e = absurd cc

back_globals : (s : Stack) (t : Terminal) (q : Taken) → globals_step s t ≡ some_of q → Back Globals s t q
back_globals s t q e =
    tested (Fixed Uint64) t (for Plain, WantName DeclaresGlobal ∷ AfterGlobal ∷ Globals ∷ s) q _ (Back Globals s)
    (global_fits s)
    (λ e. tested (Fixed Int) t (for Plain, main_rest s) q (boxes_step s t) (Back Globals s) (main_fits s)
    (back_boxes s t q) e) e

back : (s : Stack) (t : Terminal) (q : Taken) → advance s t ≡ some_of q → (ws : Slots) → Fits q.1 ws
    → Fits s ((t, q.0) ∷ ws)
unfolding advance
back [] t q e = absurd cc
back (Want u r ∷ s) t q e = back_want u r s t q e
back (WantName act ∷ s) t q e = back_name act s t q e
back (WantNum act ∷ s) t q e = back_num act s t q e
back (Globals ∷ s) t q e = back_globals s t q e
back (AfterGlobal ∷ s) t q e = back_after_global s t q e
back (Body ∷ s) t q e = back_body s t q e
back (OrElse ∷ s) t q e = back_or_else s t q (back s t q) e
back (Under d ∷ s) t q e = back_under d s t q e
back (Nested d ∷ s) t q e = back_nested d s t q e
back (Turn d ∷ s) t q e = back_turn d s t q e
back (AfterMark ∷ s) t q e = back_after_mark s t q e
back (AfterName ∷ s) t q e = back_after_name s t q e
back (Value ∷ s) t q e = back_value s t q e
back (Atom ∷ s) t q e = back_atom s t q e
back (Behind ∷ s) t q e = back_behind s t q (back s t q) e
back (Tail top ∷ s) t q e = back_tail top s t q (back s t q) e
back (Fractional op ∷ s) t q e = back_fractional op s t q e

back_all : (xs : Slots) (s s' : Stack) (ws : Slots) → Goes s xs s' → Fits s' ws → Fits s (xs ++ ws)
back_all [] s s' ws p f = subst (λ (u : Stack). Fits u ws) (sym p) f
back_all (x ∷ xs) s s' ws p f = back s x.0 (x.1, p.0) p.1 (xs ++ ws) (back_all xs p.0 s' ws p.2 f)

-- each way that the machine goes from the start is the front of a text
pub completes : (xs : Slots) (s : Stack) → Goes start xs s
    → (t : Text) × IsText t × (more : Slots) × (slots t ≡ xs ++ more)
completes xs s p =
    let d = default s in
    let f = back_all xs start s d.0 p d.1 in
    (f.0, f.1, d.0, sym (append-nil (slots f.0)) ∙ ap (λ (v : Slots). slots f.0 ++ v) (sym f.4) ∙ sym f.3)
