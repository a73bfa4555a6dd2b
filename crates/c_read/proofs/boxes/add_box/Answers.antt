use Rattle.std.proofs.Common.{refl}
use Rattle.std.proofs.lemmas.Str.{IsUtf8-from_ascii}
use Rattle.c_read.proofs.Boxed.{entry_more}
use Rattle.c_read.proofs.Boxing.{box_added}
use Rattle.c_read.proofs.boxes.add_box.Goals as goal

pub returns-clause-boxed : goal.returns-clause-boxed
returns-clause-boxed c =
    box_added c.args.name c.push.new.self c.args.scope.now c.args.arrays.now.entries c.insert.new.self.entries
    c.in_ok-push.ensures.items
    (entry_more c.in_ok-text.text _ c.args.name.now c.args.arrays.now.entries c.insert.new.self.entries
    c.in_ok-insert.ensures.entries (c.in_ok-text.ensures.ok (IsUtf8-from_ascii c.args.name.now c.requires.ascii)) refl
    c.requires.fresh)
