-- Where the machine for sources has come, a text goes on: what a stack stands for.
use Rattle.std.proofs.Common.{◌≡◌, ℕ, zero, suc, List, [], ◌∷◌, ◌++◌, Option, Some, None, refl}
use Rattle.c_grammar.specs.Terminal.{Name, Num}
use Rattle.c_grammar.specs.Grammar.{DeclaresLoop, for, Slots, value_of, Term, Literal, term, IsRanked, Source, Input, source, IsRankedSource, Head, head_rest, deeper, stmt, stmt_in, stmts_in, Stmt, Assign, Store, Repeat, Choose, ChooseElse, IsStmt, Stmts, Done, Then, stmts, IsNest, AreStmts, body_opening, body_closing, Text, slots, IsText}
use Rattle.c_grammar.specs.Program.{Want, WantName, WantNum, Globals, AfterGlobal, Body, OrElse, Under, Nested, Turn, AfterMark, AfterName, Value, Atom, Behind, Tail, Fractional, Stack, expr}
use Rattle.c_grammar.proofs.Operands.{IsAtom, Operations, operations, AreOperations, attach_all, ranked_behind, term_behind}
use Rattle.c_grammar.proofs.Parts.{index, held, branch, assigned, made}

abbrev pub IsIndex : Option Term → Type 0
IsIndex None = Unit {0}
IsIndex (Some i) = IsRanked i

abbrev pub IsBranch : Option Stmts → Type 0
IsBranch None = Unit {0}
IsBranch (Some b) = AreStmts b

-- what may follow a line that wants a nest of d loops
abbrev pub IsHeld : ℕ → Option Head → Stmts → Type 0
IsHeld d None b = d ≡ 0
IsHeld d (Some h) b = IsNest b (deeper d)

-- what may follow the line of an atomic update
abbrev pub IsMarkable : Stmt → Type 0
IsMarkable (Assign x v) = Unit {0}
IsMarkable (Store x i v) = Unit {0}
IsMarkable (Choose e a) = Unit {0}
IsMarkable (ChooseElse e a b) = Unit {0}
IsMarkable _ = ⊥

abbrev pub Fits : Stack → Slots → Type 0
Fits [] ws = ws ≡ []
Fits (Want t r ∷ s) ws = (v : Slots) × (ws ≡ (t, r) ∷ v) × Fits s v
Fits (WantName act ∷ s) ws = (x : List ℕ) × (v : Slots) × (ws ≡ (Name x, for act) ∷ v) × Fits s v
Fits (WantNum act ∷ s) ws = (n : Option ℕ) × (v : Slots) × (ws ≡ (Num n, for act) ∷ v) × Fits s v
Fits (Globals ∷ s) ws = (t : Text) × IsText t × (v : Slots) × (ws ≡ slots t ++ v) × Fits s v
Fits (AfterGlobal ∷ s) ws = (n : Option (Option ℕ)) × (v : Slots) × (ws ≡ made n ++ v) × Fits s v
Fits (Body ∷ s) ws = (ss : Stmts) × AreStmts ss × (v : Slots) × (ws ≡ stmts ss ++ (body_closing ∷ v)) × Fits s v
Fits (OrElse ∷ s) ws = (o : Option Stmts) × IsBranch o × (v : Slots) × (ws ≡ branch o ++ v) × Fits s v
Fits (Under d ∷ s) ws =
    (o : Option Head) × (b : Stmts) × AreStmts b × IsHeld d o b × (v : Slots) × (ws ≡ held d o b ++ v) × Fits s v
Fits (Nested d ∷ s) ws =
    (h : Head) × (b : Stmts) × AreStmts b × IsNest b d × (v : Slots) × (ws ≡ stmt_in (Repeat h b) (suc d) ++ v) × Fits s v
Fits (Turn d ∷ s) ws =
    (h : Head) × (b : Stmts) × AreStmts b × IsNest b d × (v : Slots)
    × (ws ≡ (Name h.name, for DeclaresLoop) ∷ (head_rest h ++ (body_opening ∷ (stmts_in b d ++ (body_closing ∷ v)))))
    × Fits s v
Fits (AfterMark ∷ s) ws = (st : Stmt) × IsMarkable st × IsStmt st × (v : Slots) × (ws ≡ stmt st ++ v) × Fits s v
Fits (AfterName ∷ s) ws =
    (o : Option Term) × IsIndex o × (e : Source) × IsRankedSource e × (v : Slots) × (ws ≡ assigned o e ++ v) × Fits s v
Fits (Value ∷ s) ws = (e : Source) × IsRankedSource e × (v : Slots) × (ws ≡ source e ++ v) × Fits s v
Fits (Atom ∷ s) ws = (e : Term) × IsAtom e × (v : Slots) × (ws ≡ term e ++ v) × Fits s v
Fits (Behind ∷ s) ws = (o : Option Term) × IsIndex o × (v : Slots) × (ws ≡ index o ++ v) × Fits s v
Fits (Tail top ∷ s) ws = (os : Operations) × AreOperations top os × (v : Slots) × (ws ≡ operations os ++ v) × Fits s v
Fits (Fractional op ∷ s) ws = (n : Option ℕ) × (v : Slots) × (ws ≡ value_of op n ∷ v) × Fits s v

-- an expression and what follows it
abbrev pub HasTerm : Stack → Slots → Type 0
HasTerm s ws = (e : Term) × IsRanked e × (v : Slots) × (ws ≡ term e ++ v) × Fits s v

pub has_term : (s : Stack) (ws : Slots) → Fits (expr s) ws → HasTerm s ws
has_term s ws f =
    let rest = f.4 in (
      attach_all f.0 rest.0,
      ranked_behind f.0 rest.0 f.1 rest.1,
      rest.2,
      term_behind f.0 rest.0 ws f.2 rest.2 f.3 rest.3,
      rest.4,
    )

abbrev some_head : Head
some_head = record { name = []; first = None; limit = None; step = None }

-- some nest of d loops
some_nest : (d : ℕ) → (b : Stmts) × AreStmts b × IsNest b d
some_nest zero = (Done, tt, tt)
some_nest (suc d) = (let n = some_nest d in (Then (Repeat some_head n.0) Done, (n.1, tt), n.2))

-- each stack stands for some tokens
pub default : (s : Stack) → (ws : Slots) × Fits s ws
default [] = ([], refl)
default (Want t r ∷ s) = (let d = default s in ((t, r) ∷ d.0, (d.0, refl, d.1)))
default (WantName act ∷ s) = (let d = default s in ((Name [], for act) ∷ d.0, ([], d.0, refl, d.1)))
default (WantNum act ∷ s) = (let d = default s in ((Num None, for act) ∷ d.0, (None, d.0, refl, d.1)))
default (Globals ∷ s) =
    (let d = default s in let t : Text = record { globals = []; boxes = None; body = Done } in (
      slots t
          ++ d.0,
      (t, (tt, tt), d.0, refl, d.1),
    ))
default (AfterGlobal ∷ s) = (let d = default s in (made None ++ d.0, (None, d.0, refl, d.1)))
default (Body ∷ s) = (let d = default s in (body_closing ∷ d.0, (Done, tt, d.0, refl, d.1)))
default (OrElse ∷ s) = (let d = default s in (d.0, (None, tt, d.0, refl, d.1)))
default (Under k ∷ s) =
    (let d = default s in let n = some_nest (deeper k) in (
      held k (Some some_head) n.0 ++ d.0,
      (Some some_head, n.0, n.1, n.2, d.0, refl, d.1),
    ))
default (Nested k ∷ s) =
    (let d = default s in let n = some_nest k in (
      stmt_in (Repeat some_head n.0) (suc k) ++ d.0,
      (some_head, n.0, n.1, n.2, d.0, refl, d.1),
    ))
default (Turn k ∷ s) =
    (let d = default s in let n = some_nest k in (
      (Name [], for DeclaresLoop)
          ∷ (head_rest some_head ++ (body_opening ∷ (stmts_in n.0 k ++ (body_closing ∷ d.0)))),
      (some_head, n.0, n.1, n.2, d.0, refl, d.1),
    ))
default (AfterMark ∷ s) =
    (let d = default s in (stmt (Assign [] Input) ++ d.0, (Assign [] Input, tt, tt, d.0, refl, d.1)))
default (AfterName ∷ s) = (let d = default s in (assigned None Input ++ d.0, (None, tt, Input, tt, d.0, refl, d.1)))
default (Value ∷ s) = (let d = default s in (source Input ++ d.0, (Input, tt, d.0, refl, d.1)))
default (Atom ∷ s) = (let d = default s in (term (Literal None) ++ d.0, (Literal None, (refl, tt), d.0, refl, d.1)))
default (Behind ∷ s) = (let d = default s in (d.0, (None, tt, d.0, refl, d.1)))
default (Tail top ∷ s) = (let d = default s in (d.0, ([], tt, d.0, refl, d.1)))
default (Fractional op ∷ s) = (let d = default s in (value_of op None ∷ d.0, (None, d.0, refl, d.1)))
