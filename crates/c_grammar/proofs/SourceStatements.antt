-- What goes on from where the machine for sources has come goes on from where it was: statements.
use Rattle.std.proofs.Common.{◌≡◌, ℕ, zero, suc, true, List, [], ◌∷◌, ◌++◌, Some, None, refl, sym, ap, ◌∙◌, append_assoc}
use Rattle.std.proofs.lemmas.List.{append-nil}
use Rattle.base.specs.declared.fault.ReadCode.TheVariants.{NoBody}
use Rattle.c_tokens.specs.declared.kind.Sign.TheVariants as sign
use Rattle.c_grammar.specs.Lexeme.{Lexeme, Uint64, For, If, Print}
use Rattle.c_grammar.specs.Terminal.{Terminal, Fixed, Mark, Name, Num, Line, Unknown, Unworked, End}
use Rattle.c_grammar.specs.Lines.{is_omp, is_atomic}
use Rattle.c_grammar.specs.Grammar.{Plain, DeclaresLocal, DeclaresLoop, MakesScalar, Limit, Step, Starts, StartsIf, Prints, Assigned, StartsBlock, Marks, Slots, for, mark, word, Term, term, IsRanked, Source, source, IsRankedSource, Stmt, Declare, Assign, Store, Atomic, AtomicAssign, AtomicIf, Repeat, Choose, ChooseElse, Show, Block, Directive, OverBlock, OverLoop, stmt_in, stmts_in, stmt, IsStmt, IsNest, Done, Then, nest_slots, Head, head_rest, Stmts, stmts, AreStmts, body_opening, body_closing, end_mark}
use Rattle.c_grammar.specs.Program.{Want, WantName, Body, OrElse, Nested, Turn, AfterMark, AfterName, Value, Stack, m, expr, body, inner_body, loop_body, head_of, name_step, turn_step, loop, choice, after_mark, after_name}
use Rattle.c_grammar.proofs.Ways.{some_of}
use Rattle.c_grammar.proofs.Lexemes.{some_is}
use Rattle.c_grammar.proofs.Terminals.{tested}
use Rattle.c_grammar.proofs.Parts.{branch, assigned}
use Rattle.c_grammar.proofs.SourceFits.{IsIndex, IsBranch, IsMarkable, Fits, has_term}
use Rattle.c_grammar.proofs.SourceBack.{Taken, Back, none}

-- a statement and what follows it
abbrev pub HasStmt : Stack → Slots → Type 0
HasStmt s ws = (st : Stmt) × IsStmt st × (v : Slots) × (ws ≡ stmt st ++ v) × Fits s v

-- one that may follow the line of an atomic update
abbrev pub HasMarkable : Stack → Slots → Type 0
HasMarkable s ws = (st : Stmt) × IsMarkable st × IsStmt st × (v : Slots) × (ws ≡ stmt st ++ v) × Fits s v

abbrev pub stmt_of : (s : Stack) (ws : Slots) → HasMarkable s ws → HasStmt s ws
stmt_of s ws h = (h.0, h.2, h.3, h.4, h.5)

abbrev pub StmtBack : Stack → Terminal → Taken → Type 0
StmtBack s t q = (ws : Slots) → Fits q.1 ws → HasStmt s ((t, q.0) ∷ ws)

-- ---- declarations and assignments

pub declare_fits : (s : Stack) (ws : Slots)
    → Fits (WantName DeclaresLocal ∷ m sign.Equal ∷ Value ∷ Want (Mark sign.Semicolon) (for MakesScalar) ∷ s) ws
    → HasStmt s ((Fixed Uint64, for Starts) ∷ ws)
declare_fits s ws f =
    let equal = f.3 in
    let value = equal.2 in
    let last = value.4 in
    let e0 : ws ≡ (Name f.0, for DeclaresLocal) ∷ f.1 = f.2 in
    let e1 : f.1 ≡ mark sign.Equal ∷ equal.0 = equal.1 in
    let e2 : equal.0 ≡ source value.0 ++ value.2 = value.3 in
    let e3 : value.2 ≡ (Mark sign.Semicolon, for MakesScalar) ∷ last.0 = last.1 in
    let g = append_assoc (source value.0) ((Mark sign.Semicolon, for MakesScalar) ∷ []) last.0 in
    (Declare f.0 value.0, value.1, last.0, cc, last.2)

assign_has : (x : List ℕ) (s : Stack) (ws : Slots) → Fits (AfterName ∷ s) ws → HasMarkable s ((Name x, for Assigned) ∷ ws)
assign_has x s ws f =
    elim f.0 as (λ o. IsIndex o → ws ≡ assigned o f.2 ++ f.4 → HasMarkable s ((Name x, for Assigned) ∷ ws)) [
      | None ↦ λ r e. (Assign x f.2, tt, f.3, f.4, ap (λ (v : Slots). (Name x, for Assigned) ∷ v) e, f.6)
      | Some i ↦ λ r e. (Store x i f.2, tt, (r, f.3), f.4, ap (λ (v : Slots). (Name x, for Assigned) ∷ v) e, f.6)
    ] f.1 f.5

pub assign_fits : (x : List ℕ) (s : Stack) (ws : Slots) → Fits (AfterName ∷ s) ws → HasStmt s ((Name x, for Assigned) ∷ ws)
assign_fits x s ws f = stmt_of s ((Name x, for Assigned) ∷ ws) (assign_has x s ws f)

scalar_fits : (s : Stack) (ws : Slots) → Fits (Value ∷ m sign.Semicolon ∷ s) ws
    → Fits (AfterName ∷ s) (mark sign.Equal ∷ ws)
scalar_fits s ws f =
    let last = f.4 in
    let e0 : ws ≡ source f.0 ++ f.2 = f.3 in
    let e1 : f.2 ≡ end_mark ∷ last.0 = last.1 in
    let g = append_assoc (source f.0) (end_mark ∷ []) last.0 in
    (None, tt, f.0, f.1, last.0, cc, last.2)

-- an index in brackets, a value, and what follows them
abbrev HasCell : Stack → Slots → Type 0
HasCell s ws =
    (i : Term) × IsRanked i × (e : Source) × IsRankedSource e × (v : Slots) × (ws ≡ assigned (Some i) e ++ v) × Fits s v

has_cell : (s : Stack) (ws : Slots)
    → Fits (expr (m sign.CloseBracket ∷ m sign.Equal ∷ Value ∷ m sign.Semicolon ∷ s)) ws
    → HasCell s (mark sign.OpenBracket ∷ ws)
has_cell s ws f =
    let index = has_term (m sign.CloseBracket ∷ m sign.Equal ∷ Value ∷ m sign.Semicolon ∷ s) ws f in
    let close = index.4 in
    let equal = close.2 in
    let value = equal.2 in
    let last = value.4 in
    let e0 : ws ≡ term index.0 ++ index.2 = index.3 in
    let e1 : index.2 ≡ mark sign.CloseBracket ∷ close.0 = close.1 in
    let e2 : close.0 ≡ mark sign.Equal ∷ equal.0 = equal.1 in
    let e3 : equal.0 ≡ source value.0 ++ value.2 = value.3 in
    let e4 : value.2 ≡ end_mark ∷ last.0 = last.1 in
    let g0 =
    append_assoc (term index.0) (mark sign.CloseBracket ∷ mark sign.Equal ∷ (source value.0 ++ end_mark ∷ []))
    last.0 in
    let g1 = append_assoc (source value.0) (end_mark ∷ []) last.0 in
    (index.0, index.1, value.0, value.1, last.0, cc, last.2)

cell_fits : (s : Stack) (ws : Slots)
    → Fits (expr (m sign.CloseBracket ∷ m sign.Equal ∷ Value ∷ m sign.Semicolon ∷ s)) ws
    → Fits (AfterName ∷ s) (mark sign.OpenBracket ∷ ws)
cell_fits s ws f = (let c = has_cell s ws f in (Some c.0, c.1, c.2, c.3, c.4, c.5, c.6))

-- a statement with the line of an atomic update before it
abbrev with_line : List Lexeme → Stmt → Stmt
with_line l (Assign x v) = AtomicAssign l x v
with_line l (Store x i v) = Atomic l x i v
with_line l s = AtomicIf l s

line_slots : (l : List Lexeme) (st : Stmt) → IsMarkable st → stmt (with_line l st) ≡ (Line l, for Marks) ∷ stmt st
line_slots l (Assign x v) k = refl
line_slots l (Store x i v) k = refl
line_slots l (Choose e a) k = refl
line_slots l (ChooseElse e a b) k = refl
line_slots l (Declare x v) k = absurd k
line_slots l (Repeat a b) k = absurd k
line_slots l (Show e) k = absurd k
line_slots l (Block b) k = absurd k
line_slots l (Directive g) k = absurd k
line_slots l (Atomic g x i v) k = absurd k
line_slots l (AtomicAssign g x v) k = absurd k
line_slots l (AtomicIf g c) k = absurd k
line_slots l (OverBlock g b) k = absurd k
line_slots l (OverLoop g a b) k = absurd k

line_is : (l : List Lexeme) (st : Stmt) → IsMarkable st → is_omp l ≡ true → is_atomic l ≡ true → IsStmt st
    → IsStmt (with_line l st)
line_is l (Assign x v) o h k p = (h, k, p)
line_is l (Store x i v) o h k p = (h, k, p.0, p.1)
line_is l (Choose e a) o h k p = (h, k, tt, p)
line_is l (ChooseElse e a b) o h k p = (h, k, tt, p)
line_is l (Declare x v) o h k p = absurd o
line_is l (Repeat a b) o h k p = absurd o
line_is l (Show e) o h k p = absurd o
line_is l (Block b) o h k p = absurd o
line_is l (Directive g) o h k p = absurd o
line_is l (Atomic g x i v) o h k p = absurd o
line_is l (AtomicAssign g x v) o h k p = absurd o
line_is l (AtomicIf g c) o h k p = absurd o
line_is l (OverBlock g b) o h k p = absurd o
line_is l (OverLoop g a b) o h k p = absurd o

-- an atomic update behind its line
pub atomic_fits : (l : List Lexeme) (s : Stack) → is_omp l ≡ true → is_atomic l ≡ true
    → StmtBack s (Line l) (for Marks, AfterMark ∷ s)
atomic_fits l s h k ws f = (
  with_line l f.0,
  line_is l f.0 f.1 h k f.2,
  f.3,
  ap (λ (v : Slots). (Line l, for Marks) ∷ v) f.4
      ∙ ap (λ (v : Slots). v ++ f.3) (sym (line_slots l f.0 f.1)),
  f.5,
)

pub back_after_name : (s : Stack) (t : Terminal) (q : Taken) → after_name s t ≡ some_of q → Back AfterName s t q
back_after_name s t q e =
    tested (Mark sign.Equal) t (for Plain, Value ∷ m sign.Semicolon ∷ s) q _ (Back AfterName s) (scalar_fits s)
    (λ e. tested (Mark sign.OpenBracket) t
    (for Plain, expr (m sign.CloseBracket ∷ m sign.Equal ∷ Value ∷ m sign.Semicolon ∷ s)) q None (Back AfterName s)
    (cell_fits s) (none AfterName s t q) e) e

-- ---- loops

-- the rest of a body with a nest of d loops, and what follows it
abbrev HasInner : ℕ → Stack → Slots → Type 0
HasInner d s ws =
    (b : Stmts) × AreStmts b × IsNest b d × (v : Slots) × (ws ≡ stmts_in b d ++ (body_closing ∷ v)) × Fits s v

inner_fits : (d : ℕ) (s : Stack) (ws : Slots) → Fits (inner_body d s) ws → HasInner d s ws
inner_fits zero s ws f = (f.0, f.1, tt, f.2, f.3, f.4)
inner_fits (suc d) s ws f =
    let last = f.6 in
    let one : Slots = stmt_in (Repeat f.0 f.1) (suc d) in (
      Then (Repeat f.0 f.1) Done,
      (f.2, tt),
      f.3,
      last.0,
      f.5 ∙ ap (λ (v : Slots). one ++ v) last.1
          ∙ ap (λ (u : Slots). u ++ (body_closing ∷ last.0)) (sym (append-nil one)),
      last.2,
    )

head_fits : (x : List ℕ) (d : ℕ) (s : Stack) (ws : Slots) → Fits (head_of x (loop_body d s)) ws
    → Fits (Turn d ∷ s) ((Name x, for DeclaresLoop) ∷ ws)
head_fits x d s ws f =
    let e0 : ws ≡ mark sign.Equal ∷ f.0 = f.1 in
    let a1 = f.2 in
    let e1 : f.0 ≡ (Num a1.0, for Plain) ∷ a1.1 = a1.2 in
    let a2 = a1.3 in
    let e2 : a1.1 ≡ mark sign.Semicolon ∷ a2.0 = a2.1 in
    let a3 = a2.2 in
    let e3 : a2.0 ≡ (Name x, for Plain) ∷ a3.0 = a3.1 in
    let a4 = a3.2 in
    let e4 : a3.0 ≡ mark sign.Less ∷ a4.0 = a4.1 in
    let a5 = a4.2 in
    let e5 : a4.0 ≡ (Num a5.0, for Limit) ∷ a5.1 = a5.2 in
    let a6 = a5.3 in
    let e6 : a5.1 ≡ mark sign.Semicolon ∷ a6.0 = a6.1 in
    let a7 = a6.2 in
    let e7 : a6.0 ≡ (Name x, for Plain) ∷ a7.0 = a7.1 in
    let a8 = a7.2 in
    let e8 : a7.0 ≡ mark sign.PlusEqual ∷ a8.0 = a8.1 in
    let a9 = a8.2 in
    let e9 : a8.0 ≡ (Num a9.0, for Step) ∷ a9.1 = a9.2 in
    let a10 = a9.3 in
    let e10 : a9.1 ≡ mark sign.CloseParen ∷ a10.0 = a10.1 in
    let a11 = a10.2 in
    let e11 : a10.0 ≡ body_opening ∷ a11.0 = a11.1 in
    let a12 = inner_fits d s a11.0 a11.2 in
    let e12 : a11.0 ≡ stmts_in a12.0 d ++ (body_closing ∷ a12.3) = a12.4 in
    let h : Head = record { name = x; first = a1.0; limit = a5.0; step = a9.0 } in
    (h, a12.0, a12.1, a12.2, a12.3, cc, a12.5)

pub back_turn : (d : ℕ) (s : Stack) (t : Terminal) (q : Taken) → turn_step d s t ≡ some_of q → Back (Turn d) s t q
back_turn d s (Name x) q e =
    some_is (for DeclaresLoop, head_of x (loop_body d s)) q (λ p. Back (Turn d) s (Name x) p) e (head_fits x d s)
back_turn d s (Num a) q e = absurd cc
back_turn d s (Fixed a) q e = absurd cc
back_turn d s (Mark a) q e = absurd cc
back_turn d s (Line a) q e = absurd cc
back_turn d s Unknown q e = absurd cc
back_turn d s Unworked q e = absurd cc
back_turn d s End q e = absurd cc

-- a loop behind its first word, and what follows it
abbrev pub HasLoop : ℕ → Stack → Slots → Type 0
HasLoop d s ws =
    (h : Head) × (b : Stmts) × AreStmts b × IsNest b d × (v : Slots) × (ws ≡ nest_slots h b d ++ v) × Fits s v

pub loop_fits : (d : ℕ) (s : Stack) (ws : Slots) → Fits (loop d s) ws → HasLoop d s ws
loop_fits d s ws f =
    let a = f.2 in
    let b = a.2 in
    let h : Head = b.0 in
    let e0 : ws ≡ mark sign.OpenParen ∷ f.0 = f.1 in
    let e1 : f.0 ≡ word Uint64 ∷ a.0 = a.1 in
    let rest : Slots = body_opening ∷ (stmts_in b.1 d ++ (body_closing ∷ b.4)) in
    let e2 : a.0 ≡ (Name h.name, for DeclaresLoop) ∷ (head_rest h ++ rest) = b.5 in
    let g : (stmts_in b.1 d ++ body_closing ∷ []) ++ b.4 ≡ stmts_in b.1 d ++ (body_closing ∷ b.4) =
    append_assoc (stmts_in b.1 d) (body_closing ∷ []) b.4 in
    (h, b.1, b.2, b.3, b.4, cc, b.6)

pub repeat_fits : (s : Stack) (ws : Slots) → Fits (loop 0 s) ws → HasStmt s ((Fixed For, for Starts) ∷ ws)
repeat_fits s ws f =
    (let h = loop_fits 0 s ws f in (
      Repeat h.0 h.1,
      h.2,
      h.4,
      ap (λ (v : Slots). (Fixed For, for Starts) ∷ v) h.5,
      h.6,
    ))

pub nested_fits : (d : ℕ) (s : Stack) (ws : Slots) → Fits (loop d s) ws
    → Fits (Nested d ∷ s) ((Fixed For, (Some NoBody, Starts)) ∷ ws)
nested_fits d s ws f =
    (let h = loop_fits d s ws f in (
      h.0,
      h.1,
      h.2,
      h.3,
      h.4,
      ap (λ (v : Slots). (Fixed For, (Some NoBody, Starts)) ∷ v) h.5,
      h.6,
    ))

-- ---- branches, prints, blocks

choose_has : (s : Stack) (ws : Slots) → Fits (choice s) ws → HasMarkable s ((Fixed If, for StartsIf) ∷ ws)
choose_has s ws f =
    let test = has_term (m sign.CloseParen ∷ body (OrElse ∷ s)) f.0 f.2 in
    let close = test.4 in
    let brace = close.2 in
    let first = brace.2 in
    let other = first.4 in
    let e0 : ws ≡ mark sign.OpenParen ∷ f.0 = f.1 in
    let e1 : f.0 ≡ term test.0 ++ test.2 = test.3 in
    let e2 : test.2 ≡ mark sign.CloseParen ∷ close.0 = close.1 in
    let e3 : close.0 ≡ body_opening ∷ brace.0 = brace.1 in
    let e4 : brace.0 ≡ stmts first.0 ++ (body_closing ∷ first.2) = first.3 in
    let front : Slots → Slots = λ v. mark sign.CloseParen ∷ body_opening ∷ v in
    elim other.0 as
    (λ o. IsBranch o → first.2 ≡ branch o ++ other.2 → HasMarkable s ((Fixed If, for StartsIf) ∷ ws)) [
      | None ↦ λ r e.
          let last : Slots = body_closing ∷ [] in
          let g0 = append_assoc (term test.0) (front (stmts first.0 ++ last)) other.2 in
          let g1 = append_assoc (stmts first.0) last other.2 in
          (Choose test.0 first.0, tt, (test.1, first.1), other.2, cc, other.4)
      | Some b ↦ λ r e.
          let second : Slots = body_closing ∷ branch (Some b) in
          let g0 = append_assoc (term test.0) (front (stmts first.0 ++ second)) other.2 in
          let g1 = append_assoc (stmts first.0) second other.2 in
          (ChooseElse test.0 first.0 b, tt, (test.1, first.1, r), other.2, cc, other.4)
    ] other.1 other.3

pub choose_fits : (s : Stack) (ws : Slots) → Fits (choice s) ws → HasStmt s ((Fixed If, for StartsIf) ∷ ws)
choose_fits s ws f = stmt_of s ((Fixed If, for StartsIf) ∷ ws) (choose_has s ws f)

name_marks : (s : Stack) (t : Terminal) (q : Taken) → name_step Assigned (AfterName ∷ s) t ≡ some_of q → Back AfterMark s t q
name_marks s (Name x) q e =
    some_is (for Assigned, AfterName ∷ s) q (λ p. Back AfterMark s (Name x) p) e (assign_has x s)
name_marks s (Num a) q e = absurd cc
name_marks s (Fixed a) q e = absurd cc
name_marks s (Mark a) q e = absurd cc
name_marks s (Line a) q e = absurd cc
name_marks s Unknown q e = absurd cc
name_marks s Unworked q e = absurd cc
name_marks s End q e = absurd cc

pub back_after_mark : (s : Stack) (t : Terminal) (q : Taken) → after_mark s t ≡ some_of q → Back AfterMark s t q
back_after_mark s t q e =
    tested (Fixed If) t (for StartsIf, choice s) q _ (Back AfterMark s) (choose_has s) (name_marks s t q) e

pub show_fits : (s : Stack) (ws : Slots)
    → Fits (m sign.OpenParen ∷ expr (m sign.CloseParen ∷ m sign.Semicolon ∷ s)) ws
    → HasStmt s ((Fixed Print, for Prints) ∷ ws)
show_fits s ws f =
    let value = has_term (m sign.CloseParen ∷ m sign.Semicolon ∷ s) f.0 f.2 in
    let close = value.4 in
    let last = close.2 in
    let e0 : ws ≡ mark sign.OpenParen ∷ f.0 = f.1 in
    let e1 : f.0 ≡ term value.0 ++ value.2 = value.3 in
    let e2 : value.2 ≡ mark sign.CloseParen ∷ close.0 = close.1 in
    let e3 : close.0 ≡ end_mark ∷ last.0 = last.1 in
    let g0 = append_assoc (term value.0) (mark sign.CloseParen ∷ end_mark ∷ []) last.0 in
    (Show value.0, value.1, last.0, cc, last.2)

pub block_fits : (s : Stack) (ws : Slots) → Fits (Body ∷ s) ws → HasStmt s ((Mark sign.OpenBrace, for StartsBlock) ∷ ws)
block_fits s ws f = (
  Block f.0,
  f.1,
  f.2,
  ap (λ (v : Slots). (Mark sign.OpenBrace, for StartsBlock) ∷ v)
      (f.3 ∙ sym (append_assoc (stmts f.0) (body_closing ∷ []) f.2)),
  f.4,
)
