-- The tokens of a tree without its directives are those of the tree that are no directive lines.
use Rattle.std.proofs.Common.{◌≡◌, ℕ, Bool, true, false, cond, List, [], ◌∷◌, ◌++◌, Option, Some, None, refl, sym, ap, ◌∙◌}
use Rattle.std.proofs.lemmas.Bool.{and_parts}
use Rattle.c_tokens.specs.declared.kind.Sign.TheVariants as sign
use Rattle.c_grammar.specs.Blocks.{bare, is_directive}
use Rattle.c_grammar.specs.Lexeme.{Lexeme, For, If, Else, Int, Main, Void, same}
use Rattle.c_grammar.specs.Terminal.{Terminal, Fixed, Mark, Name, Num, Line, Unknown, Unworked, End}
use Rattle.c_grammar.specs.Lines.{boxing_word, is_boxing, is_omp, depth_of}
use Rattle.c_grammar.specs.Grammar.{Slots, Plain, StartsIf, Otherwise, for, mark, word, Term, Literal, Named, Element, Group, Prefixed, Both, By, term, Source, Input, Value, source, Head, head_slots, body_opening, body_closing, Stmt, Declare, Assign, Store, Repeat, Choose, ChooseElse, Show, Block, Directive, Atomic, AtomicAssign, AtomicIf, OverBlock, OverLoop, Stmts, Done, Then, deeper, stmt_in, stmts_in, stmt, stmts, IsStmt, AreStmts, IsText, Global, Scalar, Array, global, globals, Text, main_part, AreBoxes, boxes_slots, slots}
use Rattle.c_grammar.specs.Rules.{source_grammar}
use Rattle.c_grammar.specs.Texts.{Item, kinds, terminals}
use Rattle.erasure.specs.Plain.{plain_before, plain_stmts, plain_tree}
use Rattle.erasure.proofs.Contexts.{is_line_terminal}
use Rattle.erasure.proofs.Follows.{NoLines, no_line_first, no_lines_append}

pub term_no_lines : (e : Term) → NoLines (term e)
term_no_lines (Literal n) = refl
term_no_lines (Named x) = refl
term_no_lines (Element x i) = no_lines_append (term i) _ (term_no_lines i) refl
term_no_lines (Group e) = no_lines_append (term e) _ (term_no_lines e) refl
term_no_lines (Prefixed op e) = term_no_lines e
term_no_lines (Both op a b) = no_lines_append (term a) _ (term_no_lines a) (term_no_lines b)
term_no_lines (By op a n) = no_lines_append (term a) _ (term_no_lines a) refl

pub source_no_lines : (v : Source) → NoLines (source v)
source_no_lines Input = refl
source_no_lines (Value e) = term_no_lines e

pub head_no_lines : (h : Head) (xs : Slots) → NoLines xs → NoLines (head_slots h ++ xs)
head_no_lines h xs l = l

-- ---- which tokens are left

abbrev kinds_of : Slots → List Terminal
kinds_of xs = kinds source_grammar xs

-- the tokens that are no directive lines
abbrev pub bared : List Terminal → List Terminal
bared [] = []
bared (t ∷ ts) = cond (is_directive t) (bared ts) (t ∷ bared ts)

pub bare_items : (is : List (Item Terminal)) → terminals source_grammar (bare is) ≡ bared (terminals source_grammar is)
bare_items [] = refl
bare_items (i ∷ is) = step (is_directive i.terminal) (bare_items is)
  where
    step : (t : Bool) → terminals source_grammar (bare is) ≡ bared (terminals source_grammar is) →
        terminals source_grammar (cond t (bare is) (i ∷ bare is))
        ≡ cond t (bared (terminals source_grammar is)) (i.terminal ∷ bared (terminals source_grammar is))
    step true e = e
    step false e = ap (λ (ts : List Terminal). i.terminal ∷ ts) e

pub bare_append : (ts us : List Terminal) → bared (ts ++ us) ≡ bared ts ++ bared us
bare_append [] us = refl
bare_append (t ∷ ts) us = step (is_directive t) (bare_append ts us)
  where
    step : (b : Bool) → bared (ts ++ us) ≡ bared ts ++ bared us →
        cond b (bared (ts ++ us)) (t ∷ bared (ts ++ us)) ≡ cond b (bared ts) (t ∷ bared ts) ++ bared us
    step true e = e
    step false e = ap (λ (vs : List Terminal). t ∷ vs) e

no_directive : (t : Terminal) → is_line_terminal t ≡ false → is_directive t ≡ false
no_directive (Line ts) e = absurd cc
no_directive (Fixed w) e = refl
no_directive (Mark s) e = refl
no_directive (Name x) e = refl
no_directive (Num v) e = refl
no_directive Unknown e = refl
no_directive Unworked e = refl
no_directive End e = refl

kinds_append : (xs ys : Slots) → kinds_of (xs ++ ys) ≡ kinds_of xs ++ kinds_of ys
kinds_append [] ys = refl
kinds_append (x ∷ xs) ys = ap (λ (vs : List Terminal). x.0 ∷ vs) (kinds_append xs ys)

-- the tokens of the first that are no directive lines are those of the second
abbrev pub Bares : Slots → Slots → Type 0
Bares xs ys = bared (kinds_of xs) ≡ kinds_of ys

bares_same : (xs : Slots) → NoLines xs → Bares xs xs
bares_same [] l = refl
bares_same (x ∷ xs) l =
    let both = no_line_first x xs l in
    ap (λ (b : Bool). cond b (bared (kinds_of xs)) (x.0 ∷ bared (kinds_of xs))) (no_directive x.0 both.0)
    ∙ ap (λ (vs : List Terminal). x.0 ∷ vs) (bares_same xs both.1)

bares_join : (xs us ys vs : Slots) → Bares xs us → Bares ys vs → Bares (xs ++ ys) (us ++ vs)
bares_join xs us ys vs p q =
    ap bared (kinds_append xs ys) ∙ bare_append (kinds_of xs) (kinds_of ys)
    ∙ ap (λ (ts : List Terminal). ts ++ bared (kinds_of ys)) p ∙ ap (λ (ts : List Terminal). kinds_of us ++ ts) q
    ∙ sym (kinds_append us vs)

-- a directive line in front
line_gone : (l : List Lexeme) (xs ys : Slots) → is_omp l ≡ true → Bares xs ys →
    bared (Line l ∷ kinds_of xs) ≡ kinds_of ys
line_gone l xs ys h p = ap (λ (b : Bool). cond b (bared (kinds_of xs)) (Line l ∷ bared (kinds_of xs))) h ∙ p

abbrev close : Slots
close = body_closing ∷ []

bares_body : (xs ys : Slots) → Bares xs ys → Bares (xs ++ close) (ys ++ close)
bares_body xs ys p = bares_join xs ys close close p refl

-- behind tokens of no directive
bares_behind : (xs ys vs : Slots) → NoLines xs → Bares ys vs → Bares (xs ++ ys) (xs ++ vs)
bares_behind xs ys vs l q = bares_join xs xs ys vs (bares_same xs l) q

bares_loop : (h : Head) (xs ys : Slots) → Bares xs ys →
    Bares (head_slots h ++ (body_opening ∷ (xs ++ close))) (head_slots h ++ (body_opening ∷ (ys ++ close)))
bares_loop h xs ys p =
    bares_behind (head_slots h ++ body_opening ∷ []) (xs ++ close) (ys ++ close) (head_no_lines h (body_opening ∷ []) refl) (bares_body xs ys p)

bares_choice : (e : Term) (ys vs : Slots) → Bares ys vs →
    Bares ((Fixed If, for StartsIf) ∷ mark sign.OpenParen ∷ (term e ++ (mark sign.CloseParen ∷ body_opening ∷ ys)))
    ((Fixed If, for StartsIf) ∷ mark sign.OpenParen ∷ (term e ++ (mark sign.CloseParen ∷ body_opening ∷ vs)))
bares_choice e ys vs p =
    ap (λ (ts : List Terminal). Fixed If ∷ Mark sign.OpenParen ∷ ts)
    (bares_behind (term e) (mark sign.CloseParen ∷ body_opening ∷ ys) (mark sign.CloseParen ∷ body_opening ∷ vs) (term_no_lines e) (ap (λ (ts : List Terminal). Mark sign.CloseParen ∷ Mark sign.OpenBrace ∷ ts) p))

abbrev otherwise : Stmts → Slots
otherwise b = body_closing ∷ (Fixed Else, for Otherwise) ∷ body_opening ∷ (stmts b ++ close)

bares_block : (b : Stmts) → Bares (stmts b) (stmts (plain_stmts b)) →
    Bares (body_opening ∷ (stmts b ++ close)) (stmt (Block (plain_stmts b)))
bares_block b p = ap (λ (ts : List Terminal). Mark sign.OpenBrace ∷ ts) (bares_body (stmts b) (stmts (plain_stmts b)) p)

bares_store : (x : List ℕ) (i : Term) (v : Source) → Bares (stmt (Store x i v)) (stmt (Store x i v))
bares_store x i v =
    bares_same (stmt (Store x i v))
    (no_lines_append (term i) _ (term_no_lines i) (no_lines_append (source v) _ (source_no_lines v) refl))

bares_assign : (x : List ℕ) (v : Source) → Bares (stmt (Assign x v)) (stmt (Assign x v))
bares_assign x v = bares_same (stmt (Assign x v)) (no_lines_append (source v) _ (source_no_lines v) refl)

mutual
  -- whether they are a nest of loops or not
  pub bares_stmts : (b : Stmts) (d : ℕ) → AreStmts b → Bares (stmts_in b d) (stmts (plain_stmts b))
  bares_stmts Done d h = refl
  bares_stmts (Then s ss) d h = bares_stmt s d (stmts_in ss d) (plain_stmts ss) h.0 (bares_stmts ss d h.1)

  bares_stmt : (s : Stmt) (d : ℕ) (xs : Slots) (ss : Stmts) → IsStmt s → Bares xs (stmts ss) →
      Bares (stmt_in s d ++ xs) (stmts (plain_before s ss))
  bares_stmt (Declare x v) d xs ss g p =
      bares_join (stmt (Declare x v)) (stmt (Declare x v)) xs (stmts ss)
      (bares_same (stmt (Declare x v)) (no_lines_append (source v) _ (source_no_lines v) refl)) p
  bares_stmt (Assign x v) d xs ss g p =
      bares_join (stmt (Assign x v)) (stmt (Assign x v)) xs (stmts ss) (bares_assign x v) p
  bares_stmt (Store x i v) d xs ss g p =
      bares_join (stmt (Store x i v)) (stmt (Store x i v)) xs (stmts ss) (bares_store x i v) p
  bares_stmt (Repeat h b) d xs ss g p =
      bares_join (stmt_in (Repeat h b) d) (stmt (Repeat h (plain_stmts b))) xs (stmts ss)
      (ap (λ (ts : List Terminal). Fixed For ∷ ts)
      (bares_loop h (stmts_in b (deeper d)) (stmts (plain_stmts b)) (bares_stmts b (deeper d) g))) p
  bares_stmt (Choose e a) d xs ss g p =
      bares_join (stmt (Choose e a)) (stmt (Choose e (plain_stmts a))) xs (stmts ss)
      (bares_choice e (stmts a ++ close) (stmts (plain_stmts a) ++ close)
      (bares_body (stmts a) (stmts (plain_stmts a)) (bares_stmts a 0 g.1))) p
  bares_stmt (ChooseElse e a b) d xs ss g p =
      bares_join (stmt (ChooseElse e a b)) (stmt (ChooseElse e (plain_stmts a) (plain_stmts b))) xs (stmts ss)
      (bares_choice e (stmts a ++ otherwise b) (stmts (plain_stmts a) ++ otherwise (plain_stmts b))
      (bares_join (stmts a) (stmts (plain_stmts a)) (otherwise b) (otherwise (plain_stmts b)) (bares_stmts a 0 g.1)
      (ap (λ (ts : List Terminal). Mark sign.CloseBrace ∷ Fixed Else ∷ Mark sign.OpenBrace ∷ ts)
      (bares_body (stmts b) (stmts (plain_stmts b)) (bares_stmts b 0 g.2))))) p
  bares_stmt (Show e) d xs ss g p =
      bares_join (stmt (Show e)) (stmt (Show e)) xs (stmts ss)
      (bares_same (stmt (Show e)) (no_lines_append (term e) _ (term_no_lines e) refl)) p
  bares_stmt (Block b) d xs ss g p =
      bares_join (stmt (Block b)) (stmt (Block (plain_stmts b))) xs (stmts ss) (bares_block b (bares_stmts b 0 g)) p
  bares_stmt (Directive l) d xs ss g p = line_gone l xs (stmts ss) g.0 p
  bares_stmt (Atomic l x i v) d xs ss g p =
      line_gone l (stmt (Store x i v) ++ xs) (stmt (Store x i v) ++ stmts ss) g.0
      (bares_join (stmt (Store x i v)) (stmt (Store x i v)) xs (stmts ss) (bares_store x i v) p)
  bares_stmt (AtomicAssign l x v) d xs ss g p =
      line_gone l (stmt (Assign x v) ++ xs) (stmt (Assign x v) ++ stmts ss) g.0
      (bares_join (stmt (Assign x v)) (stmt (Assign x v)) xs (stmts ss) (bares_assign x v) p)
  bares_stmt (AtomicIf l s) d xs ss g p =
      line_gone l (stmt s ++ xs) (stmts (plain_before s ss)) g.0 (bares_stmt s 0 xs ss g.3 p)
  bares_stmt (OverBlock l b) d xs ss g p =
      bares_join (stmt (OverBlock l b)) (stmt (Block (plain_stmts b))) xs (stmts ss)
      (line_gone l (body_opening ∷ (stmts b ++ close)) (stmt (Block (plain_stmts b))) g.0 (bares_block b (bares_stmts b 0 g.2))) p
  bares_stmt (OverLoop l h b) d xs ss g p =
      let inner : Slots = stmts_in b (deeper (depth_of l)) in
      bares_join (stmt (OverLoop l h b)) (stmt (Repeat h (plain_stmts b))) xs (stmts ss)
      (line_gone l ((Fixed For, for Plain) ∷ (head_slots h ++ (body_opening ∷ (inner ++ close)))) (stmt (Repeat h (plain_stmts b))) g.0
      (ap (λ (ts : List Terminal). Fixed For ∷ ts)
      (bares_loop h inner (stmts (plain_stmts b)) (bares_stmts b (deeper (depth_of l)) g.2)))) p

pub global_no_lines : (g : Global) → NoLines (global g)
global_no_lines (Scalar x) = refl
global_no_lines (Array x n) = refl

globals_no_lines : (gs : List Global) → NoLines (globals gs)
globals_no_lines [] = refl
globals_no_lines (g ∷ gs) = no_lines_append (global g) (globals gs) (global_no_lines g) (globals_no_lines gs)

boxing_is_omp : (l : List Lexeme) → is_boxing l ≡ true → is_omp l ≡ true
unfolding is_omp
boxing_is_omp [] e = absurd cc
boxing_is_omp (t ∷ []) e = absurd cc
boxing_is_omp (t ∷ u ∷ []) e = absurd cc
boxing_is_omp (t ∷ u ∷ v ∷ ts) e = (and_parts (is_omp (t ∷ u ∷ [])) (same boxing_word v) e).0

-- the line of the boxed scalars is gone
bares_boxes : (o : Option (List Lexeme)) → AreBoxes o → Bares (boxes_slots o) []
bares_boxes None h = refl
bares_boxes (Some l) h = line_gone l [] [] (boxing_is_omp l h) refl

abbrev main_begins : Slots
main_begins = word Int ∷ word Main ∷ mark sign.OpenParen ∷ word Void ∷ mark sign.CloseParen ∷ body_opening ∷ []

bares_main : (b : Stmts) → AreStmts b → Bares (main_part b) (main_part (plain_stmts b))
bares_main b h =
    let rest : Slots = body_closing ∷ (End, for Plain) ∷ [] in
    bares_behind main_begins (stmts b ++ rest) (stmts (plain_stmts b) ++ rest) refl
    (bares_join (stmts b) (stmts (plain_stmts b)) rest rest (bares_stmts b 0 h) refl)

pub bares_slots : (t : Text) → IsText t → Bares (slots t) (slots (plain_tree t))
bares_slots t h =
    bares_behind (globals t.globals) (boxes_slots t.boxes ++ main_part t.body) (main_part (plain_stmts t.body))
    (globals_no_lines t.globals)
    (bares_join (boxes_slots t.boxes) [] (main_part t.body) (main_part (plain_stmts t.body)) (bares_boxes t.boxes h.0)
    (bares_main t.body h.1))
