-- The end of a source stands only behind a whole text.
use Rattle.std.proofs.Common.{◌≡◌, ℕ, false, List, [], ◌∷◌, ◌++◌, Option, Some, None, refl, sym, ap, subst, ◌∙◌, append_assoc}
use Rattle.c_tokens.specs.declared.kind.Sign.TheVariants as sign
use Rattle.c_grammar.specs.Lexeme.{Lexeme, Else, Int, Main, Void}
use Rattle.c_grammar.specs.Terminal.{Terminal, Fixed, Mark, End, same}
use Rattle.c_grammar.specs.Lines.{depth_of}
use Rattle.c_grammar.specs.Grammar.{Plain, MakesScalar, Otherwise, Slot, Slots, for, mark, word, inner, closing, Term, Literal, Named, Element, Group, Prefixed, Both, By, operator_sign, fraction_sign, value_of, term, Source, Input, Value, source, Head, Stmt, Declare, Assign, Store, Repeat, Choose, ChooseElse, Show, Block, Directive, Atomic, AtomicAssign, AtomicIf, OverBlock, OverLoop, Stmts, Done, Then, head_slots, body_opening, body_closing, end_mark, deeper, stmt_in, stmts_in, stmts, Global, Scalar, Array, boxes_slots, global, globals, Text, slots}

abbrev NoEnd : Slots → Type 0
NoEnd [] = Unit {0}
NoEnd (x ∷ xs) = (same End x.0 ≡ false) × NoEnd xs

both : (xs ys : Slots) → NoEnd xs → NoEnd ys → NoEnd (xs ++ ys)
both [] ys h k = k
both (x ∷ xs) ys h k = (h.0, both xs ys h.1 k)

in_term : (e : Term) → NoEnd (term e)
in_term (Literal n) = (refl, tt)
in_term (Named x) = (refl, tt)
in_term (Element x i) = (refl, (refl, both (term i) (closing sign.CloseBracket ∷ []) (in_term i) (refl, tt)))
in_term (Group e) = (refl, both (term e) (closing sign.CloseParen ∷ []) (in_term e) (refl, tt))
in_term (Prefixed op e) = (refl, in_term e)
in_term (Both op a b) = both (term a) (inner (operator_sign op) ∷ term b) (in_term a) (refl, in_term b)
in_term (By op a n) = both (term a) (inner (fraction_sign op) ∷ value_of op n ∷ []) (in_term a) (refl, (refl, tt))

in_source : (v : Source) → NoEnd (source v)
in_source Input = (refl, (refl, (refl, tt)))
in_source (Value e) = in_term e

in_head : (h : Head) → NoEnd (head_slots h)
in_head h =
    (refl, (refl, (refl, (refl, (refl, (refl, (refl, (refl, (refl, (refl, (refl, (refl, (refl, (refl, tt))))))))))))))

in_body : (xs : Slots) → NoEnd xs → NoEnd (xs ++ body_closing ∷ [])
in_body xs h = both xs (body_closing ∷ []) h (refl, tt)

-- an index with its closing bracket, and what is stored
in_cell : (i : Term) (v : Source)
    → NoEnd (term i ++ (mark sign.CloseBracket ∷ mark sign.Equal ∷ (source v ++ end_mark ∷ [])))
in_cell i v =
    let last : Slots = source v ++ end_mark ∷ [] in
    let ends : NoEnd last = both (source v) (end_mark ∷ []) (in_source v) (refl, tt) in
    both (term i) (mark sign.CloseBracket ∷ mark sign.Equal ∷ last) (in_term i) (refl, (refl, ends))

mutual
  in_stmt : (s : Stmt) (d : ℕ) → NoEnd (stmt_in s d)
  in_stmt (Declare x v) d =
      (refl, (refl, (refl, both (source v) ((Mark sign.Semicolon, for MakesScalar) ∷ []) (in_source v) (refl, tt))))
  in_stmt (Assign x v) d = (refl, (refl, both (source v) (end_mark ∷ []) (in_source v) (refl, tt)))
  in_stmt (Store x i v) d = (refl, (refl, in_cell i v))
  in_stmt (Repeat h b) d = (
    refl,
    both (head_slots h) (body_opening ∷ (stmts_in b (deeper d) ++ body_closing ∷ [])) (in_head h)
        (refl, in_body (stmts_in b (deeper d)) (in_stmts b (deeper d))),
  )
  in_stmt (Choose e a) d = (
    refl,
    (
      refl,
      both (term e) (mark sign.CloseParen ∷ body_opening ∷ (stmts a ++ body_closing ∷ [])) (in_term e)
          (refl, (refl, in_body (stmts a) (in_stmts a 0))),
    ),
  )
  in_stmt (ChooseElse e a b) d =
      let second : Slots = body_closing ∷ (Fixed Else, for Otherwise) ∷ body_opening ∷ (stmts b ++ body_closing ∷ []) in
      let rest : NoEnd (stmts a ++ second) =
      both (stmts a) second (in_stmts a 0) (refl, (refl, (refl, in_body (stmts b) (in_stmts b 0)))) in (
        refl,
        (
          refl,
          both (term e) (mark sign.CloseParen ∷ body_opening ∷ (stmts a ++ second)) (in_term e)
              (refl, (refl, rest)),
        ),
      )
  in_stmt (Show e) d = (refl, (refl, both (term e) (mark sign.CloseParen ∷ end_mark ∷ []) (in_term e) (refl, (refl, tt))))
  in_stmt (Block b) d = (refl, in_body (stmts b) (in_stmts b 0))
  in_stmt (Directive l) d = (refl, tt)
  in_stmt (Atomic l x i v) d = (refl, (refl, (refl, in_cell i v)))
  in_stmt (AtomicAssign l x v) d = (refl, (refl, (refl, both (source v) (end_mark ∷ []) (in_source v) (refl, tt))))
  in_stmt (AtomicIf l s) d = (refl, in_stmt s 0)
  in_stmt (OverBlock l b) d = (refl, (refl, in_body (stmts b) (in_stmts b 0)))
  in_stmt (OverLoop l h b) d = (
    refl,
    (
      refl,
      both (head_slots h) (body_opening ∷ (stmts_in b (deeper (depth_of l)) ++ body_closing ∷ [])) (in_head h)
          (refl, in_body (stmts_in b (deeper (depth_of l))) (in_stmts b (deeper (depth_of l)))),
    ),
  )

  in_stmts : (ss : Stmts) (d : ℕ) → NoEnd (stmts_in ss d)
  in_stmts Done d = tt
  in_stmts (Then s ss) d = both (stmt_in s d) (stmts_in ss d) (in_stmt s d) (in_stmts ss d)

in_global : (g : Global) → NoEnd (global g)
in_global (Scalar x) = (refl, (refl, (refl, tt)))
in_global (Array x n) = (refl, (refl, (refl, (refl, (refl, (refl, tt))))))

in_globals : (gs : List Global) → NoEnd (globals gs)
in_globals [] = tt
in_globals (g ∷ gs) = both (global g) (globals gs) (in_global g) (in_globals gs)

in_boxes : (o : Option (List Lexeme)) → NoEnd (boxes_slots o)
in_boxes None = tt
in_boxes (Some l) = (refl, tt)

-- a text without its end
abbrev unended : Text → Slots
unended t =
    globals t.globals ++ (boxes_slots t.boxes ++ (word Int ∷ word Main ∷ mark sign.OpenParen ∷ word Void
    ∷ mark sign.CloseParen ∷ body_opening ∷ (stmts t.body ++ body_closing ∷ [])))

in_unended : (t : Text) → NoEnd (unended t)
in_unended t =
    both (globals t.globals) _ (in_globals t.globals)
    (both (boxes_slots t.boxes) _ (in_boxes t.boxes)
    (refl, (refl, (refl, (refl, (refl, (refl, in_body (stmts t.body) (in_stmts t.body 0))))))))

abbrev the_end : Slot
the_end = (End, for Plain)

ended : (t : Text) → slots t ≡ unended t ++ the_end ∷ []
ended t =
    let head : Slots =
    word Int ∷ word Main ∷ mark sign.OpenParen ∷ word Void ∷ mark sign.CloseParen ∷ body_opening ∷ [] in
    let main : Slots = head ++ (stmts t.body ++ body_closing ∷ []) in
    ap (λ (u : Slots). globals t.globals ++ (boxes_slots t.boxes ++ (head ++ u)))
    (sym (append_assoc (stmts t.body) (body_closing ∷ []) (the_end ∷ [])))
    ∙ ap (λ (u : Slots). globals t.globals ++ u) (sym (append_assoc (boxes_slots t.boxes) main (the_end ∷ [])))
    ∙ sym (append_assoc (globals t.globals) (boxes_slots t.boxes ++ main) (the_end ∷ []))

is_last : (init : Slots) → NoEnd init → (front : Slots) (x : Slot) (more : Slots) → x.0 ≡ End
    → init ++ the_end ∷ [] ≡ front ++ (x ∷ more) → more ≡ []
is_last [] h [] x more k e = cc
is_last [] h (y ∷ []) x more k e = absurd cc
is_last [] h (y ∷ z ∷ front) x more k e = absurd cc
is_last (a ∷ init) h [] x more k e =
    let here : a ≡ x = cc in
    let bad : same End End ≡ false =
    subst (λ (t : Terminal). same End t ≡ false) (ap (λ (s : Slot). s.0) here ∙ k) h.0 in
    absurd cc
is_last (a ∷ init) h (y ∷ front) x more k e =
    (let rest : init ++ the_end ∷ [] ≡ front ++ (x ∷ more) = cc in is_last init h.1 front x more k rest)

-- behind the end of a text no token comes
pub end_is_last : (t : Text) (front : Slots) (x : Slot) (more : Slots) → x.0 ≡ End → slots t ≡ front ++ (x ∷ more)
    → more ≡ []
end_is_last t front x more k e = is_last (unended t) (in_unended t) front x more k (sym (ended t) ∙ e)
