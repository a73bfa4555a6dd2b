-- A statement is known from its tokens where its bodies are.
use Rattle.std.proofs.Common.{◌≡◌, ℕ, suc, false, eqb, List, [], ◌∷◌, ◌++◌, refl, sym, ap, subst, ◌∙◌, append_assoc}
use Rattle.std.proofs.lemmas.Bool.{eqb-false}
use Rattle.c_tokens.specs.declared.kind.Sign.TheVariants as sign
use Rattle.c_grammar.specs.Lexeme.{Lexeme, For, If, Else}
use Rattle.c_grammar.specs.Terminal.{Terminal, Fixed, Line, same}
use Rattle.c_grammar.specs.Lines.{depth_of}
use Rattle.c_grammar.specs.Grammar.{Act, Starts, StartsIf, Prints, Assigned, StartsBlock, Otherwise, Alone, Over, Marks, Slots, for, mark, Term, term, IsRanked, Source, IsRankedSource, Head, Stmt, Declare, Assign, Store, Repeat, Choose, ChooseElse, Show, Block, Directive, Atomic, AtomicAssign, AtomicIf, OverBlock, OverLoop, Stmts, body_opening, body_closing, deeper, stmt_in, stmt, stmts, nest_slots, loop_slots, IsChoice}
use Rattle.c_grammar.proofs.GoesOn.{NoElse}
use Rattle.c_grammar.proofs.TermReader.{one_term}
use Rattle.c_grammar.proofs.Views.{tokens_too, one_assign, one_store, OneNest, OneBody, one_body, one_turns}

-- ---- how a statement begins

abbrev start_number : Terminal → ℕ
start_number (Fixed For) = 2
start_number _ = 1

abbrev act_number : Terminal → Act → ℕ
act_number t Starts = start_number t
act_number t Assigned = 3
act_number t StartsIf = 4
act_number t Prints = 5
act_number t StartsBlock = 6
act_number t Alone = 7
act_number t Over = 8
act_number t Marks = 9
act_number t _ = 0

abbrev number_at : Slots → ℕ
number_at [] = 0
number_at (x ∷ xs) = act_number x.0 x.1.1

abbrev pub number_of : Stmt → ℕ
number_of (Declare x v) = 1
number_of (Repeat h b) = 2
number_of (Assign x v) = 3
number_of (Store x i v) = 3
number_of (Choose e a) = 4
number_of (ChooseElse e a b) = 4
number_of (Show e) = 5
number_of (Block b) = 6
number_of (Directive l) = 7
number_of (Atomic l x i v) = 9
number_of (AtomicAssign l x v) = 9
number_of (AtomicIf l s) = 9
number_of (OverBlock l b) = 8
number_of (OverLoop l h b) = 8

begins : (s : Stmt) (xs : Slots) → number_at (stmt s ++ xs) ≡ number_of s
begins (Declare x v) xs = refl
begins (Repeat h b) xs = refl
begins (Assign x v) xs = refl
begins (Store x i v) xs = refl
begins (Choose e a) xs = refl
begins (ChooseElse e a b) xs = refl
begins (Show e) xs = refl
begins (Block b) xs = refl
begins (Directive l) xs = refl
begins (Atomic l x i v) xs = refl
begins (AtomicAssign l x v) xs = refl
begins (AtomicIf l s) xs = refl
begins (OverBlock l b) xs = refl
begins (OverLoop l h b) xs = refl

same_number : (s u : Stmt) (xs ys : Slots) → stmt s ++ xs ≡ stmt u ++ ys → number_of s ≡ number_of u
same_number s u xs ys e = sym (begins s xs) ∙ ap (λ (v : Slots). number_at v) e ∙ begins u ys

choice_number : (c : Stmt) → IsChoice c → number_of c ≡ 4
choice_number (Choose e a) h = refl
choice_number (ChooseElse e a b) h = refl
choice_number (Declare x v) h = absurd h
choice_number (Assign x v) h = absurd h
choice_number (Store x i v) h = absurd h
choice_number (Repeat a b) h = absurd h
choice_number (Show e) h = absurd h
choice_number (Block b) h = absurd h
choice_number (Directive l) h = absurd h
choice_number (Atomic l x i v) h = absurd h
choice_number (AtomicAssign l x v) h = absurd h
choice_number (AtomicIf l s) h = absurd h
choice_number (OverBlock l b) h = absurd h
choice_number (OverLoop l a b) h = absurd h

-- an assignment or store does not begin as an if does
assigned_or_if : (s c : Stmt) (xs ys : Slots) → number_of s ≡ 3 → IsChoice c → stmt s ++ xs ≡ stmt c ++ ys → ⊥
assigned_or_if s c xs ys n h e =
    eqb-false 3 4 refl (sym n ∙ same_number s c xs ys e ∙ choice_number c h)

-- two statements that begin in different ways have different tokens
pub apart : (s u : Stmt) (xs ys : Slots) → eqb (number_of s) (number_of u) ≡ false → stmt s ++ xs ≡ stmt u ++ ys → ⊥
apart s u xs ys h e = eqb-false (number_of s) (number_of u) h (same_number s u xs ys e)

pub scalar_or_cell : (x y : List ℕ) (v w : Source) (i : Term) (xs ys : Slots)
    → stmt (Assign x v) ++ xs ≡ stmt (Store y i w) ++ ys → ⊥
scalar_or_cell x y v w i xs ys e = (let all = tokens_too _ _ e in cc)

pub atomic_scalar_or_cell : (l m : List Lexeme) (x y : List ℕ) (v w : Source) (i : Term) (xs ys : Slots)
    → stmt (AtomicAssign l x v) ++ xs ≡ stmt (Atomic m y i w) ++ ys → ⊥
atomic_scalar_or_cell l m x y v w i xs ys e = (let all = tokens_too _ _ e in cc)

-- what follows the line of an atomic update
atomic_rest : (l m : List Lexeme) (xs ys : Slots) → (Line l, for Marks) ∷ xs ≡ (Line m, for Marks) ∷ ys → (l ≡ m) × (xs ≡ ys)
atomic_rest l m xs ys e =
    let all = tokens_too _ _ e in
    let lines : l ≡ m = cc in
    (lines, cc)

pub atomic_scalar_or_if : (l m : List Lexeme) (x : List ℕ) (v : Source) (c : Stmt) (xs ys : Slots) → IsChoice c
    → stmt (AtomicAssign l x v) ++ xs ≡ stmt (AtomicIf m c) ++ ys → ⊥
atomic_scalar_or_if l m x v c xs ys h e = assigned_or_if (Assign x v) c xs ys refl h (atomic_rest l m _ _ e).1

pub atomic_cell_or_if : (l m : List Lexeme) (x : List ℕ) (i : Term) (v : Source) (c : Stmt) (xs ys : Slots) → IsChoice c
    → stmt (Atomic l x i v) ++ xs ≡ stmt (AtomicIf m c) ++ ys → ⊥
atomic_cell_or_if l m x i v c xs ys h e = assigned_or_if (Store x i v) c xs ys refl h (atomic_rest l m _ _ e).1

pub one_atomic_if : (l m : List Lexeme) (c d : Stmt) (xs ys : Slots)
    → (stmt c ++ xs ≡ stmt d ++ ys → (c ≡ d) × (xs ≡ ys))
    → stmt (AtomicIf l c) ++ xs ≡ stmt (AtomicIf m d) ++ ys → (AtomicIf l c ≡ AtomicIf m d) × (xs ≡ ys)
one_atomic_if l m c d xs ys one e =
    let rest = atomic_rest l m _ _ e in
    let choice = one rest.1 in (
      ap (λ (u : List Lexeme). AtomicIf u c) rest.0
          ∙ ap (λ (u : Stmt). AtomicIf m u) choice.0,
      choice.1,
    )

pub block_or_loop : (l m : List Lexeme) (b c : Stmts) (h : Head) (xs ys : Slots)
    → stmt (OverBlock l b) ++ xs ≡ stmt (OverLoop m h c) ++ ys → ⊥
block_or_loop l m b c h xs ys e = (let all = tokens_too _ _ e in cc)

numbered : (s : Stmt) → 0 ≡ number_of s → ⊥
numbered (Declare x v) h = absurd cc
numbered (Repeat h b) e = absurd cc
numbered (Assign x v) h = absurd cc
numbered (Store x i v) h = absurd cc
numbered (Choose e a) h = absurd cc
numbered (ChooseElse e a b) h = absurd cc
numbered (Show e) h = absurd cc
numbered (Block b) h = absurd cc
numbered (Directive l) h = absurd cc
numbered (Atomic l x i v) h = absurd cc
numbered (AtomicAssign l x v) h = absurd cc
numbered (AtomicIf l s) h = absurd cc
numbered (OverBlock l b) h = absurd cc
numbered (OverLoop l h b) e = absurd cc

-- no statement begins with what ends a body
pub no_stmt : (s : Stmt) (xs ys : Slots) → body_closing ∷ xs ≡ stmt s ++ ys → ⊥
no_stmt s xs ys e = numbered s (ap (λ (v : Slots). number_at v) e ∙ begins s ys)

-- ---- branches

-- an if, and what follows its first branch
abbrev chosen : Term → Stmts → Slots → Slots
chosen e a v = (Fixed If, for StartsIf) ∷ mark sign.OpenParen ∷
    (term e ++ (mark sign.CloseParen ∷ body_opening ∷ (stmts a ++ (body_closing ∷ v))))

abbrev pub otherwise : Stmts → Slots
otherwise b = (Fixed Else, for Otherwise) ∷ body_opening ∷ (stmts b ++ body_closing ∷ [])

one_chosen : (e f : Term) (a b : Stmts) → IsRanked e → IsRanked f → OneBody a b → (v w xs ys : Slots)
    → chosen e a v ++ xs ≡ chosen f b w ++ ys → (e ≡ f) × (a ≡ b) × (v ++ xs ≡ w ++ ys)
one_chosen e f a b p q one v w xs ys h =
    let close = mark sign.CloseParen in
    let left : Slots = stmts a ++ (body_closing ∷ v) in
    let right : Slots = stmts b ++ (body_closing ∷ w) in
    let tail : (term e ++ (close ∷ body_opening ∷ left)) ++ xs ≡ (term f ++ (close ∷ body_opening ∷ right)) ++ ys = cc in
    let test =
    one_term e f p q close (body_opening ∷ (left ++ xs)) (body_opening ∷ (right ++ ys)) (refl, refl, refl)
    (sym (append_assoc (term e) (close ∷ body_opening ∷ left) xs) ∙ tail
    ∙ append_assoc (term f) (close ∷ body_opening ∷ right) ys) in
    let bodies : body_opening ∷ (left ++ xs) ≡ body_opening ∷ (right ++ ys) = test.1 in
    let rest : left ++ xs ≡ right ++ ys = cc in
    let first =
    one (v ++ xs) (w ++ ys)
    (sym (append_assoc (stmts a) (body_closing ∷ v) xs) ∙ rest ∙ append_assoc (stmts b) (body_closing ∷ w) ys) in
    (test.0, first.0, first.1)

-- what does not begin with the word else is no second branch
no_second : (b : Stmts) (xs ys : Slots) → NoElse xs → xs ≡ otherwise b ++ ys → ⊥
no_second b xs ys n e =
    (let bad : same (Fixed Else) (Fixed Else) ≡ false = subst (λ (u : Slots). NoElse u) e n in cc)

pub one_choose : (e f : Term) (a b : Stmts) → IsRanked e → IsRanked f → OneBody a b → (xs ys : Slots)
    → stmt (Choose e a) ++ xs ≡ stmt (Choose f b) ++ ys → (Choose e a ≡ Choose f b) × (xs ≡ ys)
one_choose e f a b p q one xs ys h =
    let all = one_chosen e f a b p q one [] [] xs ys h in
    (ap (λ (u : Term). Choose u a) all.0 ∙ ap (λ (u : Stmts). Choose f u) all.1, all.2)

pub one_choose_else : (e f : Term) (a b c d : Stmts) → IsRanked e → IsRanked f → OneBody a c → OneBody b d → (xs ys : Slots)
    → stmt (ChooseElse e a b) ++ xs ≡ stmt (ChooseElse f c d) ++ ys
    → (ChooseElse e a b ≡ ChooseElse f c d) × (xs ≡ ys)
one_choose_else e f a b c d p q first second xs ys h =
    let all = one_chosen e f a c p q first (otherwise b) (otherwise d) xs ys h in
    let both : otherwise b ++ xs ≡ otherwise d ++ ys = all.2 in
    let tail : (stmts b ++ body_closing ∷ []) ++ xs ≡ (stmts d ++ body_closing ∷ []) ++ ys = cc in
    let other = one_body b d second xs ys tail in (
      ap (λ (u : Term). ChooseElse u a b) all.0 ∙ ap (λ (u : Stmts). ChooseElse f u b) all.1
          ∙ ap (λ (u : Stmts). ChooseElse f c u) other.0,
      other.1,
    )

pub choose_clash : (e f : Term) (a b c : Stmts) → IsRanked e → IsRanked f → OneBody a b → (xs ys : Slots) → NoElse xs
    → stmt (Choose e a) ++ xs ≡ stmt (ChooseElse f b c) ++ ys → ⊥
choose_clash e f a b c p q one xs ys n h =
    no_second c xs ys n (one_chosen e f a b p q one [] (otherwise c) xs ys h).2

-- ---- loops, blocks and lines

pub one_repeat : (h k : Head) (b c : Stmts) → OneBody b c → (xs ys : Slots)
    → stmt (Repeat h b) ++ xs ≡ stmt (Repeat k c) ++ ys → (Repeat h b ≡ Repeat k c) × (xs ≡ ys)
one_repeat h k b c one xs ys e =
    let tail : loop_slots h b ++ xs ≡ loop_slots k c ++ ys = cc in
    let all = one_turns 0 h k b c one xs ys tail in
    (ap (λ (u : Head). Repeat u b) all.0 ∙ ap (λ (u : Stmts). Repeat k u) all.1, all.2)

pub one_block : (b c : Stmts) → OneBody b c → (xs ys : Slots) → stmt (Block b) ++ xs ≡ stmt (Block c) ++ ys
    → (Block b ≡ Block c) × (xs ≡ ys)
one_block b c one xs ys e =
    let tail : (stmts b ++ body_closing ∷ []) ++ xs ≡ (stmts c ++ body_closing ∷ []) ++ ys = cc in
    let all = one_body b c one xs ys tail in
    (ap (λ (u : Stmts). Block u) all.0, all.1)

pub one_directive : (l k : List Lexeme) (xs ys : Slots) → stmt (Directive l) ++ xs ≡ stmt (Directive k) ++ ys
    → (Directive l ≡ Directive k) × (xs ≡ ys)
one_directive l k xs ys e =
    let all = tokens_too _ _ e in
    let lines : l ≡ k = cc in
    (ap (λ (u : List Lexeme). Directive u) lines, cc)

pub one_atomic : (l k : List Lexeme) (x y : List ℕ) (i j : Term) (v w : Source) → IsRanked i → IsRanked j
    → IsRankedSource v → IsRankedSource w → (xs ys : Slots) → stmt (Atomic l x i v) ++ xs ≡ stmt (Atomic k y j w) ++ ys
    → (Atomic l x i v ≡ Atomic k y j w) × (xs ≡ ys)
one_atomic l k x y i j v w hi hj hv hw xs ys e =
    let all = tokens_too _ _ e in
    let lines : l ≡ k = cc in
    let tail : stmt (Store x i v) ++ xs ≡ stmt (Store y j w) ++ ys = cc in
    let rest = one_store x y i j v w hi hj hv hw xs ys tail in
    let stores : Store x i v ≡ Store y j w = rest.0 in
    (cc, rest.1)

pub one_atomic_assign : (l k : List Lexeme) (x y : List ℕ) (v w : Source) → IsRankedSource v → IsRankedSource w
    → (xs ys : Slots) → stmt (AtomicAssign l x v) ++ xs ≡ stmt (AtomicAssign k y w) ++ ys
    → (AtomicAssign l x v ≡ AtomicAssign k y w) × (xs ≡ ys)
one_atomic_assign l k x y v w hv hw xs ys e =
    let all = tokens_too _ _ e in
    let lines : l ≡ k = cc in
    let tail : stmt (Assign x v) ++ xs ≡ stmt (Assign y w) ++ ys = cc in
    let rest = one_assign x y v w hv hw xs ys tail in
    let assigns : Assign x v ≡ Assign y w = rest.0 in
    (cc, rest.1)

pub one_over_block : (l k : List Lexeme) (b c : Stmts) → OneBody b c → (xs ys : Slots)
    → stmt (OverBlock l b) ++ xs ≡ stmt (OverBlock k c) ++ ys → (OverBlock l b ≡ OverBlock k c) × (xs ≡ ys)
one_over_block l k b c one xs ys e =
    let all = tokens_too _ _ e in
    let lines : l ≡ k = cc in
    let tail : (stmts b ++ body_closing ∷ []) ++ xs ≡ (stmts c ++ body_closing ∷ []) ++ ys = cc in
    let bodies = one_body b c one xs ys tail in
    (ap (λ (u : List Lexeme). OverBlock u b) lines ∙ ap (λ (u : Stmts). OverBlock k u) bodies.0, bodies.1)

-- the next loop of a nest
pub one_nested : (d : ℕ) (h k : Head) (b c : Stmts) → OneNest d b c → (xs ys : Slots)
    → stmt_in (Repeat h b) (suc d) ++ xs ≡ stmt_in (Repeat k c) (suc d) ++ ys → (Repeat h b ≡ Repeat k c) × (xs ≡ ys)
one_nested d h k b c one xs ys e =
    let tail : nest_slots h b d ++ xs ≡ nest_slots k c d ++ ys = cc in
    let all = one_turns d h k b c one xs ys tail in
    (ap (λ (u : Head). Repeat u b) all.0 ∙ ap (λ (u : Stmts). Repeat k u) all.1, all.2)

pub same_line : (l m : List Lexeme) (h k : Head) (b c : Stmts) (xs ys : Slots)
    → stmt (OverLoop l h b) ++ xs ≡ stmt (OverLoop m k c) ++ ys → l ≡ m
same_line l m h k b c xs ys e = (let all = tokens_too _ _ e in cc)

pub one_over_loop : (l m : List Lexeme) (h k : Head) (b c : Stmts) → OneNest (deeper (depth_of l)) b c → (xs ys : Slots)
    → stmt (OverLoop l h b) ++ xs ≡ stmt (OverLoop m k c) ++ ys → (OverLoop l h b ≡ OverLoop m k c) × (xs ≡ ys)
one_over_loop l m h k b c one xs ys e =
    let lines : l ≡ m = same_line l m h k b c xs ys e in
    let d : ℕ = deeper (depth_of l) in
    let here : stmt (OverLoop l h b) ++ xs ≡ stmt (OverLoop l k c) ++ ys =
    e ∙ ap (λ (u : List Lexeme). stmt (OverLoop u k c) ++ ys) (sym lines) in
    let tail : nest_slots h b d ++ xs ≡ nest_slots k c d ++ ys = cc in
    let rest = one_turns d h k b c one xs ys tail in (
      ap (λ (u : List Lexeme). OverLoop u h b) lines ∙ ap (λ (u : Head). OverLoop m u b) rest.0
          ∙ ap (λ (u : Stmts). OverLoop m k u) rest.1,
      rest.2,
    )
