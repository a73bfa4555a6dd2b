-- The tokens of a source tell its text.
use Rattle.std.proofs.Common.{◌≡◌, ℕ, zero, suc, [], ◌∷◌, ◌++◌, List, refl, sym, ap, subst, ◌∙◌, append_assoc}
use Rattle.std.proofs.lemmas.List.{append-nil}
use Rattle.c_grammar.specs.Lexeme.{Lexeme}
use Rattle.c_grammar.specs.Lines.{depth_of}
use Rattle.c_grammar.specs.Terminal.{End}
use Rattle.c_grammar.specs.Grammar.{Plain, Slots, for, Stmt, Declare, Assign, Store, Repeat, Choose, ChooseElse, Show, Block, Directive, Atomic, AtomicAssign, AtomicIf, OverBlock, OverLoop, Stmts, Done, Then, body_closing, deeper, stmt_in, stmts_in, stmt, stmts, IsNest, IsLoopNest, IsStmt, AreStmts, Text, main_part, slots, IsText}
use Rattle.c_grammar.specs.Texts.{kinds}
use Rattle.c_grammar.specs.Rules.{source_grammar}
use Rattle.c_grammar.specs.Program.{start, source_machine}
use Rattle.c_grammar.specs.SourceClaims.{OneText}
use Rattle.c_grammar.proofs.Ways.{same_way}
use Rattle.c_grammar.proofs.GoesOn.{NoElse, no_else, passes_text}
use Rattle.c_grammar.proofs.Views.{one_declare, one_assign, one_store, one_show, one_boxes, one_globals, text_is}
use Rattle.c_grammar.proofs.SourceViews.{apart, scalar_or_cell, block_or_loop, no_stmt, one_choose, one_choose_else, choose_clash, one_repeat, one_block, one_directive, one_atomic, one_atomic_assign, one_atomic_if, atomic_scalar_or_cell, atomic_scalar_or_if, atomic_cell_or_if, one_over_block, one_nested, same_line, one_over_loop}

swapped : (b a : Stmts) (us vs : Slots) → (a ≡ b) × (vs ≡ us) → (b ≡ a) × (us ≡ vs)
swapped b a us vs h = (sym h.0, sym h.1)

mutual
  one_stmt : (s u : Stmt) → IsStmt s → IsStmt u → (xs ys : Slots) → NoElse xs → NoElse ys → stmt s ++ xs ≡ stmt u ++ ys
      → (s ≡ u) × (xs ≡ ys)
  one_stmt (Declare x v) (Declare y w) p q xs ys n k e = one_declare x y v w p q xs ys e
  one_stmt (Assign x v) (Assign y w) p q xs ys n k e = one_assign x y v w p q xs ys e
  one_stmt (Assign x v) (Store y j w) p q xs ys n k e = absurd (scalar_or_cell x y v w j xs ys e)
  one_stmt (Store x i v) (Assign y w) p q xs ys n k e = absurd (scalar_or_cell y x w v i ys xs (sym e))
  one_stmt (Store x i v) (Store y j w) p q xs ys n k e = one_store x y i j v w p.0 q.0 p.1 q.1 xs ys e
  one_stmt (Repeat h b) (Repeat a c) p q xs ys n k e = one_repeat h a b c (one_stmts b c p q 0 tt tt) xs ys e
  one_stmt (Choose i a) (Choose j b) p q xs ys n k e = one_choose i j a b p.0 q.0 (one_stmts a b p.1 q.1 0 tt tt) xs ys e
  one_stmt (Choose i a) (ChooseElse j b c) p q xs ys n k e =
      absurd (choose_clash i j a b c p.0 q.0 (one_stmts a b p.1 q.1 0 tt tt) xs ys n e)
  one_stmt (ChooseElse i a c) (Choose j b) p q xs ys n k e =
      absurd (choose_clash j i b a c q.0 p.0 (λ us vs f. swapped b a us vs (one_stmts a b p.1 q.1 0 tt tt vs us (sym f))) ys xs k (sym e))
  one_stmt (ChooseElse i a c) (ChooseElse j b d) p q xs ys n k e =
      one_choose_else i j a c b d p.0 q.0 (one_stmts a b p.1 q.1 0 tt tt) (one_stmts c d p.2 q.2 0 tt tt) xs ys e
  one_stmt (Show a) (Show b) p q xs ys n k e = one_show a b p q xs ys e
  one_stmt (Block b) (Block c) p q xs ys n k e = one_block b c (one_stmts b c p q 0 tt tt) xs ys e
  one_stmt (Directive l) (Directive m) p q xs ys n k e = one_directive l m xs ys e
  one_stmt (Atomic l x i v) (Atomic m y j w) p q xs ys n k e =
      one_atomic l m x y i j v w p.2 q.2 p.3 q.3 xs ys e
  one_stmt (AtomicAssign l x v) (AtomicAssign m y w) p q xs ys n k e =
      one_atomic_assign l m x y v w p.2 q.2 xs ys e
  one_stmt (AtomicAssign l x v) (Atomic m y j w) p q xs ys n k e =
      absurd (atomic_scalar_or_cell l m x y v w j xs ys e)
  one_stmt (Atomic l x i v) (AtomicAssign m y w) p q xs ys n k e =
      absurd (atomic_scalar_or_cell m l y x w v i ys xs (sym e))
  one_stmt (AtomicIf l s) (AtomicIf m u) p q xs ys n k e =
      one_atomic_if l m s u xs ys (one_stmt s u p.3 q.3 xs ys n k) e
  one_stmt (AtomicIf l s) (AtomicAssign m y w) p q xs ys n k e =
      absurd (atomic_scalar_or_if m l y w s ys xs p.2 (sym e))
  one_stmt (AtomicIf l s) (Atomic m y j w) p q xs ys n k e =
      absurd (atomic_cell_or_if m l y j w s ys xs p.2 (sym e))
  one_stmt (AtomicAssign l x v) (AtomicIf m u) p q xs ys n k e = absurd (atomic_scalar_or_if l m x v u xs ys q.2 e)
  one_stmt (Atomic l x i v) (AtomicIf m u) p q xs ys n k e = absurd (atomic_cell_or_if l m x i v u xs ys q.2 e)
  one_stmt (OverBlock l b) (OverBlock m c) p q xs ys n k e = one_over_block l m b c (one_stmts b c p.2 q.2 0 tt tt) xs ys e
  one_stmt (OverBlock l b) (OverLoop m h c) p q xs ys n k e = absurd (block_or_loop l m b c h xs ys e)
  one_stmt (OverLoop l h b) (OverBlock m c) p q xs ys n k e = absurd (block_or_loop m l c b h ys xs (sym e))
  one_stmt (OverLoop l h b) (OverLoop m a c) p q xs ys n k e =
      let d : ℕ = deeper (depth_of l) in
      let lines : m ≡ l = sym (same_line l m h a b c xs ys e) in
      one_over_loop l m h a b c
      (one_stmts b c p.2 q.2 d p.3 (subst (λ (u : List Lexeme). IsNest c (deeper (depth_of u))) lines q.3)) xs ys e
  one_stmt s u p q xs ys n k e = absurd (apart s u xs ys refl e)

  -- of two bodies that are nests of d loops
  one_stmts : (ss us : Stmts) → AreStmts ss → AreStmts us → (d : ℕ) → IsNest ss d → IsNest us d → (xs ys : Slots)
      → stmts_in ss d ++ (body_closing ∷ xs) ≡ stmts_in us d ++ (body_closing ∷ ys) → (ss ≡ us) × (xs ≡ ys)
  one_stmts Done Done p q zero n k xs ys e = (refl, cc)
  one_stmts Done (Then u us) p q zero n k xs ys e =
      let right : Slots = stmts us ++ (body_closing ∷ ys) in
      absurd (no_stmt u xs right (e ∙ append_assoc (stmt u) (stmts us) (body_closing ∷ ys)))
  one_stmts (Then s ss) Done p q zero n k xs ys e =
      let left : Slots = stmts ss ++ (body_closing ∷ xs) in
      absurd (no_stmt s ys left (sym e ∙ append_assoc (stmt s) (stmts ss) (body_closing ∷ xs)))
  one_stmts (Then s ss) (Then u us) p q zero n k xs ys e =
      let left : Slots = stmts ss ++ (body_closing ∷ xs) in
      let right : Slots = stmts us ++ (body_closing ∷ ys) in
      let here =
      one_stmt s u p.0 q.0 left right (no_else ss xs) (no_else us ys)
      (sym (append_assoc (stmt s) (stmts ss) (body_closing ∷ xs)) ∙ e
      ∙ append_assoc (stmt u) (stmts us) (body_closing ∷ ys)) in
      let more = one_stmts ss us p.1 q.1 0 tt tt xs ys here.1 in
      (ap (λ (v : Stmt). Then v ss) here.0 ∙ ap (λ (v : Stmts). Then u v) more.0, more.1)
  one_stmts (Then s Done) (Then u Done) p q (suc d) n k xs ys e =
      let whole : stmt_in s (suc d) ++ (body_closing ∷ xs) ≡ stmt_in u (suc d) ++ (body_closing ∷ ys) =
      ap (λ (v : Slots). v ++ (body_closing ∷ xs)) (sym (append-nil (stmt_in s (suc d)))) ∙ e
      ∙ ap (λ (v : Slots). v ++ (body_closing ∷ ys)) (append-nil (stmt_in u (suc d))) in
      let one = one_loop s u p.0 q.0 d n k (body_closing ∷ xs) (body_closing ∷ ys) whole in
      let rest : body_closing ∷ xs ≡ body_closing ∷ ys = one.1 in
      (ap (λ (v : Stmt). Then v Done) one.0, cc)
  one_stmts Done us p q (suc d) n k xs ys e = absurd n
  one_stmts (Then s (Then t ss)) us p q (suc d) n k xs ys e = absurd n
  one_stmts (Then s Done) Done p q (suc d) n k xs ys e = absurd k
  one_stmts (Then s Done) (Then u (Then t us)) p q (suc d) n k xs ys e = absurd k

  one_loop : (s u : Stmt) → IsStmt s → IsStmt u → (d : ℕ) → IsLoopNest s d → IsLoopNest u d → (xs ys : Slots)
      → stmt_in s (suc d) ++ xs ≡ stmt_in u (suc d) ++ ys → (s ≡ u) × (xs ≡ ys)
  one_loop (Repeat h b) (Repeat a c) p q d n k xs ys e = one_nested d h a b c (one_stmts b c p q d n k) xs ys e
  one_loop (Repeat h b) (Declare x v) p q d n k xs ys e = absurd k
  one_loop (Repeat h b) (Assign x v) p q d n k xs ys e = absurd k
  one_loop (Repeat h b) (Store x i v) p q d n k xs ys e = absurd k
  one_loop (Repeat h b) (Choose i a) p q d n k xs ys e = absurd k
  one_loop (Repeat h b) (ChooseElse i a c) p q d n k xs ys e = absurd k
  one_loop (Repeat h b) (Show i) p q d n k xs ys e = absurd k
  one_loop (Repeat h b) (Block c) p q d n k xs ys e = absurd k
  one_loop (Repeat h b) (Directive l) p q d n k xs ys e = absurd k
  one_loop (Repeat h b) (Atomic l x i v) p q d n k xs ys e = absurd k
  one_loop (Repeat h b) (AtomicAssign l x v) p q d n k xs ys e = absurd k
  one_loop (Repeat h b) (AtomicIf l c) p q d n k xs ys e = absurd k
  one_loop (Repeat h b) (OverBlock l c) p q d n k xs ys e = absurd k
  one_loop (Repeat h b) (OverLoop l a c) p q d n k xs ys e = absurd k
  one_loop (Declare x v) u p q d n k xs ys e = absurd n
  one_loop (Assign x v) u p q d n k xs ys e = absurd n
  one_loop (Store x i v) u p q d n k xs ys e = absurd n
  one_loop (Choose i a) u p q d n k xs ys e = absurd n
  one_loop (ChooseElse i a c) u p q d n k xs ys e = absurd n
  one_loop (Show i) u p q d n k xs ys e = absurd n
  one_loop (Block c) u p q d n k xs ys e = absurd n
  one_loop (Directive l) u p q d n k xs ys e = absurd n
  one_loop (Atomic l x i v) u p q d n k xs ys e = absurd n
  one_loop (AtomicAssign l x v) u p q d n k xs ys e = absurd n
  one_loop (AtomicIf l c) u p q d n k xs ys e = absurd n
  one_loop (OverBlock l c) u p q d n k xs ys e = absurd n
  one_loop (OverLoop l a c) u p q d n k xs ys e = absurd n

-- ---- the whole

abbrev last : Slots
last = (End, for Plain) ∷ []

one_main : (b c : Stmts) → AreStmts b → AreStmts c → main_part b ≡ main_part c → b ≡ c
one_main b c p q e =
    let tail : stmts b ++ (body_closing ∷ last) ≡ stmts c ++ (body_closing ∷ last) = cc in
    (one_stmts b c p q 0 tt tt last last tail).0

same_slots : (t u : Text) → IsText t → IsText u → slots t ≡ slots u → t ≡ u
same_slots t u p q e =
    let first = one_globals t.globals u.globals t.boxes u.boxes t.body u.body e in
    let second = one_boxes t.boxes u.boxes t.body u.body first.1 in
    text_is t.globals u.globals t.boxes u.boxes t.body u.body first.0 second.0
    (one_main t.body u.body p.1 q.1 second.1)

pub same_text : (t u : Text) → IsText t → IsText u
    → kinds source_grammar (slots t) ≡ kinds source_grammar (slots u) → t ≡ u
same_text t u p q e =
    same_slots t u p q
    (same_way source_grammar source_machine (slots t) (slots u) start [] [] (passes_text t p) (passes_text u q) e).0

pub one_text : OneText
one_text bytes t u s r = same_text t u s.spelled.is_text r.spelled.is_text (sym s.spelled.tokens ∙ r.spelled.tokens)
