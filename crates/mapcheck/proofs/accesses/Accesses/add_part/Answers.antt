use Rattle.std.proofs.Common.{[], ◌∷◌, ◌++◌, sym, subst}
use Rattle.base.specs.Actions.{Counts, Creates, CopiesIn, CopiesOut, Removes, only_if}
use Rattle.mapcheck.specs.declared.items.Part.{Part}
use Rattle.mapcheck.specs.Building.{ExtendsBy, part_actions}
use Rattle.mapcheck.proofs.Building.{extends_both, on_ok}
use Rattle.mapcheck.proofs.accesses.Accesses.add_part.Goals as goal

pub returns-in_ok-add_creates_if-in-Entry : goal.returns-in_ok-add_creates_if-in-Entry
returns-in_ok-add_creates_if-in-Entry c =
    let m = c.args.map.now in
    let a = c.args.acts.now in
    on_ok c.add_copy_in_if.result
    (λ k. subst (λ (p : Part). ExtendsBy (part_actions p m a) c.args.self.now c.add_copy_in_if.new.self) (sym c.in-Entry.is)
    (extends_both (Counts a.block a.rests ∷ []) (only_if a.creates (Creates a.block) ++ only_if a.copies_in (CopiesIn m.section))
    c.args.self.now c.add_counts.new.self c.add_copy_in_if.new.self c.in_ok-add_counts.ensures.ok
    (extends_both (only_if a.creates (Creates a.block)) (only_if a.copies_in (CopiesIn m.section)) c.add_counts.new.self c.add_creates_if.new.self c.add_copy_in_if.new.self c.in_ok-add_creates_if-in-Entry.ensures k)))
    c.add_copy_in_if.ensures

pub returns-in_ok-add_copy_out_if-in-Exit : goal.returns-in_ok-add_copy_out_if-in-Exit
returns-in_ok-add_copy_out_if-in-Exit c =
    let m = c.args.map.now in
    let a = c.args.acts.now in
    on_ok c.add_removes_if.result
    (λ k. subst (λ (p : Part). ExtendsBy (part_actions p m a) c.args.self.now c.add_removes_if.new.self) (sym c.in-Exit.is)
    (extends_both (Counts a.block a.rests ∷ []) (only_if a.copies_out (CopiesOut m.section) ++ only_if a.removes (Removes a.block))
    c.args.self.now c.add_counts.new.self c.add_removes_if.new.self c.in_ok-add_counts.ensures.ok
    (extends_both (only_if a.copies_out (CopiesOut m.section)) (only_if a.removes (Removes a.block)) c.add_counts.new.self c.add_copy_out_if.new.self c.add_removes_if.new.self c.in_ok-add_copy_out_if-in-Exit.ensures k)))
    c.add_removes_if.ensures

pub returns-in_ok-add_copy_in_if-in-Update : goal.returns-in_ok-add_copy_in_if-in-Update
returns-in_ok-add_copy_in_if-in-Update c =
    let m = c.args.map.now in
    let a = c.args.acts.now in
    on_ok c.add_copy_out_if-in-Update.result
    (λ k. subst (λ (p : Part). ExtendsBy (part_actions p m a) c.args.self.now c.add_copy_out_if-in-Update.new.self) (sym c.in-Update.is)
    (extends_both (Counts a.block a.rests ∷ []) (only_if a.copies_in (CopiesIn m.section) ++ only_if a.copies_out (CopiesOut m.section))
    c.args.self.now c.add_counts.new.self c.add_copy_out_if-in-Update.new.self c.in_ok-add_counts.ensures.ok
    (extends_both (only_if a.copies_in (CopiesIn m.section)) (only_if a.copies_out (CopiesOut m.section)) c.add_counts.new.self c.add_copy_in_if-in-Update.new.self c.add_copy_out_if-in-Update.new.self c.in_ok-add_copy_in_if-in-Update.ensures k)))
    c.add_copy_out_if-in-Update.ensures
