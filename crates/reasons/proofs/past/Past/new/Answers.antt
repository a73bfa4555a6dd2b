use Rattle.std.proofs.Common.{List, subst, sym}
use Rattle.std.specs.Prelude.{Vec}
use Rattle.std.specs.declared.alloc.Global.{Global}
use Rattle.base.specs.Items.{plan}
use Rattle.mapwalk.specs.Found.{all_found}
use Rattle.mapwalk.specs.declared.rows.Acts.{Acts}
use Rattle.reasons.specs.Past.{IsPast}
use Rattle.reasons.proofs.Spelling.{few_rows, spelled}
use Rattle.reasons.proofs.past.Past.new.Goals as goal

pub invariant_of-result : goal.invariant_of-result
invariant_of-result c =
    let p = c.args.outlined.now in
    let w = c.args.walked.now in
    subst (λ (rows : List (Vec Acts Global)). IsPast (plan p) rows (all_found c.args.found.now)) (sym c.deref.ensures.value) (record {
      few = few_rows (plan p) w c.requires.acts c.requires.fault;
      spelled = spelled p w c.requires.fine c.requires.acts c.requires.fault c.requires.sound;
      footprints = c.requires.found;
    })
