-- A tree without its directives.
use Rattle.std.specs.Prelude.{None}
use Rattle.c_grammar.specs.Grammar.{Stmt, Declare, Assign, Store, Repeat, Choose, ChooseElse, Show, Block, Directive, Atomic, AtomicAssign, AtomicIf, OverBlock, OverLoop, Stmts, Done, Then, Text}

abbrev mutual
  -- the statement without its directives, and those behind it: nothing stands for a directive alone, and for one over a
  -- block or a loop the block or the loop, for an atomic store the store, for an atomic if the if
  pub plain_before : Stmt → Stmts → Stmts
  plain_before (Declare x v) ss = Then (Declare x v) ss
  plain_before (Assign x v) ss = Then (Assign x v) ss
  plain_before (Store x i v) ss = Then (Store x i v) ss
  plain_before (Repeat h b) ss = Then (Repeat h (plain_stmts b)) ss
  plain_before (Choose e a) ss = Then (Choose e (plain_stmts a)) ss
  plain_before (ChooseElse e a b) ss = Then (ChooseElse e (plain_stmts a) (plain_stmts b)) ss
  plain_before (Show e) ss = Then (Show e) ss
  plain_before (Block b) ss = Then (Block (plain_stmts b)) ss
  plain_before (Directive l) ss = ss
  plain_before (Atomic l x i v) ss = Then (Store x i v) ss
  plain_before (AtomicAssign l x v) ss = Then (Assign x v) ss
  plain_before (AtomicIf l s) ss = plain_before s ss
  plain_before (OverBlock l b) ss = Then (Block (plain_stmts b)) ss
  plain_before (OverLoop l h b) ss = Then (Repeat h (plain_stmts b)) ss

  pub plain_stmts : Stmts → Stmts
  plain_stmts Done = Done
  plain_stmts (Then s ss) = plain_before s (plain_stmts ss)

abbrev pub plain_tree : Text → Text
plain_tree t = record t { boxes = None; body = plain_stmts t.body }
