use Rattle.std.proofs.Common.{◌∙◌, ◌++◌, ◌∷◌, [], List, Bool, false, get_or, map, take, sym, ap}
use Rattle.std.proofs.lemmas.List.{map-append, take_more}
use Rattle.base.specs.declared.item.MapItem.{MapItem}
use Rattle.base.specs.declared.item.MapKind.TheVariants.{To}
use Rattle.base.specs.Actions.{always_works}
use Rattle.mapwalk.proofs.rows.none_rests.Goals as goal

abbrev other : MapItem
other = record {
  kind = To;
  always = false;
  present = false;
  section = record { array = record { 0 = 0 }; first = 0; length = 0 };
  line = 0;
  column = 0;
}

pub maps-preserved : goal.maps-preserved
maps-preserved c =
    let maps = c.args.maps.now in
    let i = c.maps._item-index in
    c.in_ok-push.ensures.items
    ∙ ap (λ (xs : List Bool). xs ++ false ∷ []) c.maps.invariant
    ∙ sym (ap (map always_works) (take_more maps i other c.maps-test.true) ∙ map-append always_works (take i maps) (get_or maps i other ∷ []))
