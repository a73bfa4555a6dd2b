-- A tree without its directives keeps the rules that the tree keeps.
use Rattle.std.proofs.Common.{◌≡◌, ℕ, zero, suc, ◌+◌, ◌≤◌, false, List, [], ◌∷◌, ◌++◌, length, Option, Some, None, refl, sym, ap, subst, ◌∙◌, arith, append_assoc, append-nil}
use Rattle.std.specs.Prelude.{nat_le, nat_lt}
use Rattle.base.specs.declared.fault.ReadCode.{ReadCode as Code}
use Rattle.base.specs.declared.fault.ReadCode.TheVariants.{TooDeep, TooMany, NoBody}
use Rattle.c_tokens.specs.declared.kind.Sign.TheVariants as sign
use Rattle.c_grammar.specs.Lexeme.{Lexeme, For, If, Else, Int, Main, Void, Uint64, Print}
use Rattle.c_grammar.specs.Terminal.{Terminal, Mark, Fixed, Name, Line, End}
use Rattle.c_grammar.specs.Lines.{depth_of}
use Rattle.c_grammar.specs.Grammar.{Slot, Slots, Plain, DeclaresLocal, MakesScalar, Starts, StartsIf, StartsBlock, Prints, Assigned, Otherwise, Opens, Alone, Over, Marks, Boxes, for, mark, word, Term, term, Source, source, Head, head_slots, body_opening, body_closing, end_mark, Stmt, Declare, Assign, Store, Repeat, Choose, ChooseElse, Show, Block, Directive, Atomic, AtomicAssign, AtomicIf, OverBlock, OverLoop, Stmts, Done, Then, deeper, loop_role, stmt_in, stmts_in, stmt, stmts, IsStmt, AreStmts, Global, Scalar, Array, global, globals, Text, main_part, boxes_slots, slots, IsText}
use Rattle.c_grammar.specs.Rules.{Context, Rule, begin, begun, out, enter, breaks, breaks_part, source_grammar, max_statements, max_braces}
use Rattle.c_grammar.specs.Texts.{KeepsRules}
use Rattle.erasure.specs.Plain.{plain_before, plain_stmts, plain_tree}
use Rattle.erasure.proofs.Contexts.{plain, Follows, opened_same, depth_same, no_more}
use Rattle.erasure.proofs.Follows.{entered, next_in, IsOut, Keeps, keeps_at, keeps_all, NoLines, no_lines_append, EndsFree, ends_free, Keeping, keeping_none, keeping_same, keeping_join, keeping_as}
use Rattle.erasure.proofs.BareTexts.{term_no_lines, source_no_lines, head_no_lines, global_no_lines}

-- ---- the line of a directive, and the first token behind it

-- no rule is broken at a word or sign that begins a statement but one that is broken at a line
module _ (c : Context) (n a : ℕ) (h : n ≤ c.statements) (l : List Lexeme) (next : Terminal)
    (line : (r : Rule) → breaks r c (Line l, for Over) next ≡ false) where
  few : nat_le max_statements n ≡ false
  unfolding breaks
  few = no_more n c.statements max_statements h (line (record { part = 0; code = TooMany }))

  block_begins : (behind : Terminal) → nat_lt max_braces (length c.frames) ≡ false → (r : Rule) →
      breaks r (plain n a c) (Mark sign.OpenBrace, for StartsBlock) behind ≡ false
  unfolding breaks
  block_begins behind deep r = part r.part r.code
    where
      part : (k : ℕ) (code : Code) → breaks_part k code (plain n a c) (Mark sign.OpenBrace) StartsBlock behind ≡ false
      part zero TooDeep = rw (depth_same c.frames) deep
      part zero TooMany = few
      part zero _ = refl
      part (suc zero) code = refl
      part (suc (suc k)) code = refl

  loop_begins : (behind : Terminal) → (r : Rule) → breaks r (plain n a c) (Fixed For, for Starts) behind ≡ false
  unfolding breaks
  loop_begins behind r = part r.part r.code
    where
      part : (k : ℕ) (code : Code) → breaks_part k code (plain n a c) (Fixed For) Starts behind ≡ false
      part zero TooMany = few
      part zero _ = refl
      part (suc zero) code = refl
      part (suc (suc k)) code = refl

abbrev line_slot : List Lexeme → Slot
line_slot l = (Line l, for Over)

keeping_block : (l : List Lexeme) →
    Keeping (line_slot l ∷ (Mark sign.OpenBrace, (Some NoBody, Opens)) ∷ []) ((Mark sign.OpenBrace, for StartsBlock) ∷ [])
unfolding breaks enter
keeping_block l zs c d n m end f o k go =
    let x : Slot = (Mark sign.OpenBrace, for StartsBlock) in
    let first : Follows (entered c (line_slot l ∷ (Mark sign.OpenBrace, (Some NoBody, Opens)) ∷ [])) (enter d x) = (
      f.0 + 1,
      f.1,
      ap (λ (e : Context). enter e x) f.2 ∙ opened_same (f.0 + 1) f.1 (begun (out c)),
      omega (arith, f.3),
      f.4,
    ) in
    let rest = go (enter d x) first (refl, refl) in
    let deep : nat_lt max_braces (length c.frames) ≡ false = k.1.0 (record { part = 0; code = TooDeep }) in (
      (
        λ r. ap (λ (e : Context). breaks r e x (next_in zs m)) f.2
            ∙ block_begins c f.0 f.1 f.3 l (Mark sign.OpenBrace) k.0 (next_in zs m) deep r,
        rest.0,
      ),
      rest.1,
    )

keeping_loop : (l : List Lexeme) → Keeping (line_slot l ∷ (Fixed For, (Some NoBody, Plain)) ∷ []) ((Fixed For, for Starts) ∷ [])
unfolding breaks enter
keeping_loop l zs c d n m end f o k go =
    let x : Slot = (Fixed For, for Starts) in
    let first : Follows (entered c (line_slot l ∷ (Fixed For, (Some NoBody, Plain)) ∷ [])) (enter d x) =
    (f.0 + 1, f.1, ap (λ (e : Context). enter e x) f.2, omega (arith, f.3), f.4) in
    let rest = go (enter d x) first (refl, refl) in (
      (
        λ r. ap (λ (e : Context). breaks r e x (next_in zs m)) f.2
            ∙ loop_begins c f.0 f.1 f.3 l (Fixed For) k.0 (next_in zs m) r,
        rest.0,
      ),
      rest.1,
    )

-- a token that does no more than begin a statement, or name arrays, may be gone
keeping_gone : (x : Slot) →
    ((c : Context) (n a : ℕ) → n ≤ c.statements → a ≤ c.arrays → Follows (enter c x) (plain n a (out c))) →
    ((c : Context) → IsOut (enter c x)) → Keeping (x ∷ []) []
keeping_gone x follows is_out zs c d n m end f o k go =
    let same : plain f.0 f.1 c ≡ plain f.0 f.1 (out c) =
    ap (λ (u : ℕ). record (plain f.0 f.1 c) { depth = u }) o.0
    ∙ ap (λ (u : ℕ). record (plain f.0 f.1 c) { depth = 0; tokens = u }) o.1 in
    go d (subst (λ (e : Context). Follows (enter c x) e) (sym (f.2 ∙ same)) (follows c f.0 f.1 f.3 f.4)) (is_out c)

keeping_alone : (l : List Lexeme) → Keeping ((Line l, for Alone) ∷ []) []
unfolding enter
keeping_alone l =
    keeping_gone (Line l, for Alone) (λ c n a h g. (n, a, refl, omega (arith, h), g)) (λ c. (refl, refl))

keeping_marks : (l : List Lexeme) → Keeping ((Line l, for Marks) ∷ []) []
unfolding enter
keeping_marks l =
    keeping_gone (Line l, for Marks) (λ c n a h g. (n, a, refl, omega (arith, h), g)) (λ c. (refl, refl))

-- the line of the boxed scalars, if there is one
keeping_boxes : (o : Option (List Lexeme)) → Keeping (boxes_slots o) []
unfolding enter
keeping_boxes None = keeping_none
keeping_boxes (Some l) =
    keeping_gone (Line l, for Boxes) (λ c n a h g. (n, a, refl, h, omega (arith, g))) (λ c. (refl, refl))

-- ---- statements

keeping_all : (xs : Slots) → NoLines xs → EndsFree xs → Keeping xs xs
keeping_all [] l e = keeping_none
keeping_all (x ∷ xs) l e = keeping_same x xs l e

abbrev close : Slots
close = body_closing ∷ []

keeping_close : Keeping close close
keeping_close = keeping_same body_closing [] refl tt

keeping_body : (xs ys : Slots) → Keeping xs ys → Keeping (xs ++ close) (ys ++ close)
keeping_body xs ys k = keeping_join xs ys close close k keeping_close

abbrev turns : Head → Slots → Slots
turns h xs = head_slots h ++ (body_opening ∷ (xs ++ close))

keeping_turns : (h : Head) (xs ys : Slots) → Keeping xs ys → Keeping (turns h xs) (turns h ys)
keeping_turns h xs ys k =
    keeping_join (head_slots h ++ body_opening ∷ []) (head_slots h ++ body_opening ∷ []) (xs ++ close) (ys ++ close)
    (keeping_all (head_slots h ++ body_opening ∷ []) (head_no_lines h (body_opening ∷ []) refl) tt) (keeping_body xs ys k)

-- the first word of a loop, in a nest or not
keeping_first : (d : ℕ) → Keeping ((Fixed For, loop_role d) ∷ []) ((Fixed For, for Starts) ∷ [])
unfolding breaks enter
keeping_first zero = keeping_same (Fixed For, for Starts) [] refl tt
keeping_first (suc d) = keeping_same (Fixed For, for Starts) [] refl tt

abbrev choice_begins : Term → Slots
choice_begins e = (Fixed If, for StartsIf) ∷ mark sign.OpenParen ∷ (term e ++ (mark sign.CloseParen ∷ body_opening ∷ []))

choice_is : (e : Term) (ys : Slots) → choice_begins e ++ ys
    ≡ (Fixed If, for StartsIf) ∷ mark sign.OpenParen ∷ (term e ++ (mark sign.CloseParen ∷ body_opening ∷ ys))
choice_is e ys =
    ap (λ (zs : Slots). (Fixed If, for StartsIf) ∷ mark sign.OpenParen ∷ zs) (append_assoc (term e) (mark sign.CloseParen ∷ body_opening ∷ []) ys)

keeping_choice : (e : Term) (ys vs : Slots) → Keeping ys vs →
    Keeping ((Fixed If, for StartsIf) ∷ mark sign.OpenParen ∷ (term e ++ (mark sign.CloseParen ∷ body_opening ∷ ys)))
    ((Fixed If, for StartsIf) ∷ mark sign.OpenParen ∷ (term e ++ (mark sign.CloseParen ∷ body_opening ∷ vs)))
keeping_choice e ys vs k =
    let lines : NoLines (choice_begins e) = no_lines_append (term e) (mark sign.CloseParen ∷ body_opening ∷ []) (term_no_lines e) refl in
    let ends : EndsFree (choice_begins e) =
    ends_free ((Fixed If, for StartsIf) ∷ mark sign.OpenParen ∷ term e) (mark sign.CloseParen) (body_opening ∷ []) tt in
    keeping_as (choice_begins e ++ ys) _ (choice_begins e ++ vs) _ (choice_is e ys) (choice_is e vs)
    (keeping_join (choice_begins e) (choice_begins e) ys vs
    (keeping_same (Fixed If, for StartsIf) (mark sign.OpenParen ∷ (term e ++ (mark sign.CloseParen ∷ body_opening ∷ []))) lines ends) k)

abbrev else_begins : Slots
else_begins = body_closing ∷ (Fixed Else, for Otherwise) ∷ body_opening ∷ []

-- a statement that is kept as it is, up to its last token
keeping_simple : (x : Slot) (xs : Slots) (y : Slot) (ys : Slots) → NoLines (x ∷ (xs ++ (y ∷ ys))) → EndsFree (y ∷ ys) →
    Keeping (x ∷ (xs ++ (y ∷ ys))) (x ∷ (xs ++ (y ∷ ys)))
keeping_simple x xs y ys l e = keeping_same x (xs ++ (y ∷ ys)) l (ends_free (x ∷ xs) y ys e)

keeping_store : (x : List ℕ) (i : Term) (v : Source) → Keeping (stmt (Store x i v)) (stmt (Store x i v))
keeping_store x i v =
    let value : Slots = mark sign.CloseBracket ∷ mark sign.Equal ∷ (source v ++ end_mark ∷ []) in
    keeping_simple (Name x, for Assigned) (mark sign.OpenBracket ∷ term i) (mark sign.CloseBracket) (mark sign.Equal ∷ (source v ++ end_mark ∷ []))
    (no_lines_append (term i) value (term_no_lines i) (no_lines_append (source v) (end_mark ∷ []) (source_no_lines v) refl))
    (ends_free (mark sign.CloseBracket ∷ mark sign.Equal ∷ source v) end_mark [] tt)

keeping_assign : (x : List ℕ) (v : Source) → Keeping (stmt (Assign x v)) (stmt (Assign x v))
keeping_assign x v =
    keeping_simple (Name x, for Assigned) (mark sign.Equal ∷ source v) end_mark []
    (no_lines_append (source v) (end_mark ∷ []) (source_no_lines v) refl) tt

mutual
  keeping_stmts : (b : Stmts) (d : ℕ) → Keeping (stmts_in b d) (stmts (plain_stmts b))
  keeping_stmts Done d = keeping_none
  keeping_stmts (Then s ss) d = keeping_stmt s d (stmts_in ss d) (plain_stmts ss) (keeping_stmts ss d)

  keeping_stmt : (s : Stmt) (d : ℕ) (xs : Slots) (ss : Stmts) → Keeping xs (stmts ss) →
      Keeping (stmt_in s d ++ xs) (stmts (plain_before s ss))
  keeping_stmt (Declare x v) d xs ss k =
      let last : Slot = (Mark sign.Semicolon, for MakesScalar) in
      keeping_join (stmt (Declare x v)) (stmt (Declare x v)) xs (stmts ss)
      (keeping_simple (Fixed Uint64, for Starts) ((Name x, for DeclaresLocal) ∷ mark sign.Equal ∷ source v) last []
      (no_lines_append (source v) (last ∷ []) (source_no_lines v) refl) tt) k
  keeping_stmt (Assign x v) d xs ss k =
      keeping_join (stmt (Assign x v)) (stmt (Assign x v)) xs (stmts ss) (keeping_assign x v) k
  keeping_stmt (Store x i v) d xs ss k =
      keeping_join (stmt (Store x i v)) (stmt (Store x i v)) xs (stmts ss) (keeping_store x i v) k
  keeping_stmt (Repeat h b) d xs ss k =
      let inner : Slots = stmts_in b (deeper d) in
      keeping_join (stmt_in (Repeat h b) d) (stmt (Repeat h (plain_stmts b))) xs (stmts ss)
      (keeping_join ((Fixed For, loop_role d) ∷ []) ((Fixed For, for Starts) ∷ []) (turns h inner) (turns h (stmts (plain_stmts b)))
      (keeping_first d) (keeping_turns h inner (stmts (plain_stmts b)) (keeping_stmts b (deeper d)))) k
  keeping_stmt (Choose e a) d xs ss k =
      keeping_join (stmt (Choose e a)) (stmt (Choose e (plain_stmts a))) xs (stmts ss)
      (keeping_choice e (stmts a ++ close) (stmts (plain_stmts a) ++ close) (keeping_body (stmts a) (stmts (plain_stmts a)) (keeping_stmts a 0))) k
  keeping_stmt (ChooseElse e a b) d xs ss k =
      keeping_join (stmt (ChooseElse e a b)) (stmt (ChooseElse e (plain_stmts a) (plain_stmts b))) xs (stmts ss)
      (keeping_choice e (stmts a ++ (else_begins ++ (stmts b ++ close))) (stmts (plain_stmts a) ++ (else_begins ++ (stmts (plain_stmts b) ++ close)))
      (keeping_join (stmts a) (stmts (plain_stmts a)) (else_begins ++ (stmts b ++ close)) (else_begins ++ (stmts (plain_stmts b) ++ close))
      (keeping_stmts a 0)
      (keeping_join else_begins else_begins (stmts b ++ close) (stmts (plain_stmts b) ++ close)
      (keeping_same body_closing ((Fixed Else, for Otherwise) ∷ body_opening ∷ []) refl tt) (keeping_body (stmts b) (stmts (plain_stmts b)) (keeping_stmts b 0))))) k
  keeping_stmt (Show e) d xs ss k =
      keeping_join (stmt (Show e)) (stmt (Show e)) xs (stmts ss)
      (keeping_simple (Fixed Print, for Prints) (mark sign.OpenParen ∷ term e) (mark sign.CloseParen) (end_mark ∷ [])
      (no_lines_append (term e) (mark sign.CloseParen ∷ end_mark ∷ []) (term_no_lines e) refl) tt) k
  keeping_stmt (Block b) d xs ss k =
      keeping_join (stmt (Block b)) (stmt (Block (plain_stmts b))) xs (stmts ss)
      (keeping_join ((Mark sign.OpenBrace, for StartsBlock) ∷ []) ((Mark sign.OpenBrace, for StartsBlock) ∷ []) (stmts b ++ close) (stmts (plain_stmts b) ++ close)
      (keeping_same (Mark sign.OpenBrace, for StartsBlock) [] refl tt) (keeping_body (stmts b) (stmts (plain_stmts b)) (keeping_stmts b 0))) k
  keeping_stmt (Directive l) d xs ss k = keeping_join ((Line l, for Alone) ∷ []) [] xs (stmts ss) (keeping_alone l) k
  keeping_stmt (Atomic l x i v) d xs ss k =
      keeping_join ((Line l, for Marks) ∷ []) [] (stmt (Store x i v) ++ xs) (stmt (Store x i v) ++ stmts ss) (keeping_marks l)
      (keeping_join (stmt (Store x i v)) (stmt (Store x i v)) xs (stmts ss) (keeping_store x i v) k)
  keeping_stmt (AtomicAssign l x v) d xs ss k =
      keeping_join ((Line l, for Marks) ∷ []) [] (stmt (Assign x v) ++ xs) (stmt (Assign x v) ++ stmts ss)
      (keeping_marks l)
      (keeping_join (stmt (Assign x v)) (stmt (Assign x v)) xs (stmts ss) (keeping_assign x v) k)
  keeping_stmt (AtomicIf l s) d xs ss k =
      keeping_join ((Line l, for Marks) ∷ []) [] (stmt s ++ xs) (stmts (plain_before s ss)) (keeping_marks l)
      (keeping_stmt s 0 xs ss k)
  keeping_stmt (OverBlock l b) d xs ss k =
      keeping_join (stmt (OverBlock l b)) (stmt (Block (plain_stmts b))) xs (stmts ss)
      (keeping_join (line_slot l ∷ (Mark sign.OpenBrace, (Some NoBody, Opens)) ∷ []) ((Mark sign.OpenBrace, for StartsBlock) ∷ [])
      (stmts b ++ close) (stmts (plain_stmts b) ++ close) (keeping_block l) (keeping_body (stmts b) (stmts (plain_stmts b)) (keeping_stmts b 0))) k
  keeping_stmt (OverLoop l h b) d xs ss k =
      let inner : Slots = stmts_in b (deeper (depth_of l)) in
      keeping_join (stmt (OverLoop l h b)) (stmt (Repeat h (plain_stmts b))) xs (stmts ss)
      (keeping_join (line_slot l ∷ (Fixed For, (Some NoBody, Plain)) ∷ []) ((Fixed For, for Starts) ∷ [])
      (turns h inner) (turns h (stmts (plain_stmts b))) (keeping_loop l)
      (keeping_turns h inner (stmts (plain_stmts b)) (keeping_stmts b (deeper (depth_of l))))) k

-- ---- the whole

keeping_globals : (gs : List Global) → Keeping (globals gs) (globals gs)
keeping_globals [] = keeping_none
keeping_globals (Scalar x ∷ gs) =
    keeping_join (global (Scalar x)) (global (Scalar x)) (globals gs) (globals gs) (keeping_all (global (Scalar x)) (global_no_lines (Scalar x)) tt) (keeping_globals gs)
keeping_globals (Array x n ∷ gs) =
    keeping_join (global (Array x n)) (global (Array x n)) (globals gs) (globals gs) (keeping_all (global (Array x n)) (global_no_lines (Array x n)) tt) (keeping_globals gs)

abbrev main_begins : Slots
main_begins = word Int ∷ word Main ∷ mark sign.OpenParen ∷ word Void ∷ mark sign.CloseParen ∷ body_opening ∷ []

abbrev main_ends : Slots
main_ends = body_closing ∷ (End, for Plain) ∷ []

keeping_main : (b : Stmts) → Keeping (main_part b) (main_part (plain_stmts b))
keeping_main b =
    keeping_join main_begins main_begins (stmts b ++ main_ends) (stmts (plain_stmts b) ++ main_ends)
    (keeping_all main_begins refl tt)
    (keeping_join (stmts b) (stmts (plain_stmts b)) main_ends main_ends (keeping_stmts b 0)
    (keeping_all main_ends refl tt))

keeping_slots : (t : Text) → Keeping (slots t) (slots (plain_tree t))
keeping_slots t =
    let main : Slots = main_part (plain_stmts t.body) in
    keeping_join (globals t.globals) (globals t.globals) (boxes_slots t.boxes ++ main_part t.body) main
    (keeping_globals t.globals)
    (keeping_join (boxes_slots t.boxes) [] (main_part t.body) main (keeping_boxes t.boxes) (keeping_main t.body))

pub plain_keeps : (t : Text) → KeepsRules source_grammar (slots t) → KeepsRules source_grammar (slots (plain_tree t))
plain_keeps t k front x more r e =
    let ys : Slots = slots (plain_tree t) in
    let all : Keeps begin (ys ++ []) End =
    (keeping_slots t [] begin begin End End (entered begin (slots t)) (0, 0, refl, omega arith, omega arith)
    (refl, refl)
    (keeps_at (slots t) [] (slots t) k refl) (λ b f o. (tt, f))).0 in
    keeps_all begin (ys ++ []) front x more r all (append-nil ys ∙ e)

-- ---- a tree of the grammar

mutual
  plain_are : (b : Stmts) → AreStmts b → AreStmts (plain_stmts b)
  plain_are Done h = tt
  plain_are (Then s ss) h = plain_is s (plain_stmts ss) h.0 (plain_are ss h.1)

  plain_is : (s : Stmt) (ss : Stmts) → IsStmt s → AreStmts ss → AreStmts (plain_before s ss)
  plain_is (Declare x v) ss h k = (h, k)
  plain_is (Assign x v) ss h k = (h, k)
  plain_is (Store x i v) ss h k = (h, k)
  plain_is (Repeat g b) ss h k = (plain_are b h, k)
  plain_is (Choose e a) ss h k = ((h.0, plain_are a h.1), k)
  plain_is (ChooseElse e a b) ss h k = ((h.0, plain_are a h.1, plain_are b h.2), k)
  plain_is (Show e) ss h k = (h, k)
  plain_is (Block b) ss h k = (plain_are b h, k)
  plain_is (Directive l) ss h k = k
  plain_is (Atomic l x i v) ss h k = ((h.2, h.3), k)
  plain_is (AtomicAssign l x v) ss h k = (h.2, k)
  plain_is (AtomicIf l s) ss h k = plain_is s ss h.3 k
  plain_is (OverBlock l b) ss h k = (plain_are b h.2, k)
  plain_is (OverLoop l g b) ss h k = (plain_are b h.2, k)

pub plain_is_text : (t : Text) → IsText t → IsText (plain_tree t)
plain_is_text t h = (tt, plain_are t.body h.1)
