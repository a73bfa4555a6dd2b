use Rattle.std.proofs.Common.{List, ℕ, ◌∙◌, ap, subst, sym}
use Rattle.std.specs.Borrow.{Bor}
use Rattle.c_expressions.specs.Cursor.{first_item}
use Rattle.c_expressions.specs.Scopes.{context_of}
use Rattle.c_read.specs.Boxes.{AreAsciiNames, texts}
use Rattle.c_read.proofs.Boxed.{names_ascii}
use Rattle.c_read.proofs.Boxing.{go_boxes, read_boxes}
use Rattle.c_read.proofs.Programs.{main_comes}
use Rattle.c_read.proofs.boxes.boxes.Goals as goal

pub returns-then-not-at_boxes-clause-read : goal.returns-then-not-at_boxes-clause-read
returns-then-not-at_boxes-clause-read c = λ s.
    main_comes (context_of c.args.scope.now 0 0) s c.args.tokens.now c.requires.no_global
    (sym c.at_boxes.ensures ∙ c.if-not-at_boxes.true)

pub add_boxes-requires-clause-ascii : goal.add_boxes-requires-clause-ascii
add_boxes-requires-clause-ascii c =
    subst (λ (xs : List (List ℕ)). AreAsciiNames xs)
    (sym (ap (λ (ns : List (Bor (List ℕ))). texts ns) c.deref.ensures.value ∙ c.in_ok-names.ensures))
    (names_ascii (first_item c.args.tokens.now).terminal)

pub returns-clause-read : goal.returns-clause-read
returns-clause-read c = λ s.
    go_boxes c.args.scope.now c.add_boxes.new.scope s (texts c.deref.result.now) c.args.arrays.now.entries
    c.add_boxes.new.arrays.entries c.args.tokens.now c.take.new.self
    (sym c.at_boxes.ensures ∙ c.if-not-at_boxes.false)
    (ap (λ (ns : List (Bor (List ℕ))). texts ns) c.deref.ensures.value ∙ c.in_ok-names.ensures) c.take.ensures
    c.in_ok-add_boxes.ensures.boxed

pub returns-clause-tree : goal.returns-clause-tree
returns-clause-tree c =
    read_boxes c.args.scope.now c.add_boxes.new.scope (texts c.deref.result.now) c.args.arrays.now.entries
    c.add_boxes.new.arrays.entries c.args.tokens.now c.take.new.self
    (sym c.at_boxes.ensures ∙ c.if-not-at_boxes.false)
    (ap (λ (ns : List (Bor (List ℕ))). texts ns) c.deref.ensures.value ∙ c.in_ok-names.ensures) c.take.ensures
    c.in_ok-add_boxes.ensures.boxed
