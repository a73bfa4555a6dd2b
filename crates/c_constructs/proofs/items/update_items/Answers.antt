use Rattle.std.proofs.Common.{◌+◌, ◌++◌, drop}
use Rattle.std.proofs.lemmas.Result.{err_from_is_err_and}
use Rattle.c_expressions.specs.Scopes.{names_of}
use Rattle.directives.specs.Names.{each_names, section_names}
use Rattle.c_constructs.specs.Sections.{IsUpdateAt}
use Rattle.c_constructs.specs.Written.{seen_update}
use Rattle.c_constructs.proofs.Growing.{grows_all, grows_next}
use Rattle.c_constructs.proofs.NameSteps.{all_read, next_failed, next_read}
use Rattle.c_constructs.proofs.SectionSteps.{first_failed, first_read}
use Rattle.c_constructs.proofs.items.update_items.Goals as goal

pub returns-in_err-update_item-clause-told : goal.returns-in_err-update_item-clause-told
returns-in_err-update_item-clause-told c = λ us.
    let p = err_from_is_err_and c.from_residual.result c.from_residual.ensures.1 in
    rw (p.1, p.2) (first_failed c.args.scope.now c.args.sections.now us _
    (c.in_err-update_item.ensures.told (each_names section_names c.args.sections.now.more.items ++ us)))

pub sections-init : goal.sections-init
sections-init c = record {
  read = λ us. first_read c.args.scope.now c.args.sections.now us
      (c.in_ok-update_item.ensures.told (each_names section_names c.args.sections.now.more.items ++ us));
  means = c.in_ok-update_item.ensures.means;
}

pub returns-in_err-update_item-2-clause-told : goal.returns-in_err-update_item-2-clause-told
returns-in_err-update_item-2-clause-told c = λ us.
    let p = err_from_is_err_and c.from_residual-in_err-update_item-2.result c.from_residual-in_err-update_item-2.ensures.1 in
    rw (p.1, p.2) (next_failed section_names c.args.scope.now c.args.sections.now.more.items
    c.deref-one-items.result.now c.sections.one-index _ c.one-item.result us _ _ c.deref-one-items.ensures.value c.sections-test.true
    c.one-item.is (c.sections.invariant.read us) (c.in_err-update_item-2.ensures.told
    (each_names section_names (drop (c.sections.one-index + 1) c.args.sections.now.more.items) ++ us)))

pub sections-preserved : goal.sections-preserved
sections-preserved c = record {
  read = λ us. next_read section_names c.args.scope.now c.args.sections.now.more.items c.deref-one-items.result.now
      c.sections.one-index _ c.one-item.result us _ c.deref-one-items.ensures.value c.sections-test.true c.one-item.is
      (c.sections.invariant.read us) (c.in_ok-update_item-2.ensures.told
      (each_names section_names (drop (c.sections.one-index + 1) c.args.sections.now.more.items) ++ us));
  means = grows_next (IsUpdateAt (names_of c.args.scope.now) c.args.line) (c.args.present, seen_update c.args.kind) c.args.sections.now.first
      c.args.sections.now.more.items c.deref-one-items.result.now c.sections.one-index c.one-item.result
      c.args.updates.now.items c.sections.updates.items c.update_item-in-sections.new.updates.items c.deref-one-items.ensures.value
      c.sections-test.true c.one-item.is c.sections.invariant.means c.in_ok-update_item-2.ensures.means;
}

pub returns-clause-told : goal.returns-clause-told
returns-clause-told c = λ us. all_read section_names c.args.scope.now c.args.sections.now.more.items
    c.deref-one-items.result.now c.sections.one-index us _ c.deref-one-items.ensures.value c.sections-test.false
    (c.sections.invariant.read us)

pub returns-clause-means : goal.returns-clause-means
returns-clause-means c =
    grows_all (IsUpdateAt (names_of c.args.scope.now) c.args.line) (c.args.present, seen_update c.args.kind) c.args.sections.now.first
    c.args.sections.now.more.items c.deref-one-items.result.now c.sections.one-index c.args.updates.now.items
    c.sections.updates.items c.deref-one-items.ensures.value c.sections-test.false c.sections.invariant.means
