-- Rules in turn, and what the table and the host memory show after them.
use Rattle.std.proofs.Common.{◌≡◌, ◌+◌, ◌<◌, ◌≤◌, ℕ, List, [], ◌∷◌, get_or, length, drop, Option, Some, None, refl, sym, ap, ◌∙◌, subst}
use Rattle.std.proofs.lemmas.Option.{same_Some}
use Rattle.std.proofs.lemmas.List.{drop_all}
use Rattle.base.specs.declared.item.MapItem.{MapItem}
use Rattle.host_memory.specs.declared.memory.Memory.{Memory as Arrays}
use Rattle.base.specs.Map.{Memories, in_turn}
use Rattle.present.specs.declared.Table.{Table}
use Rattle.std.proofs.lemmas.Option.{slice_get-get_or}
use Rattle.host_memory.specs.Arrays.{IsWithin, lengths_of}
use Rattle.host_memory.proofs.HostRows.{same_within}
use Rattle.present.specs.Table.{Are, IsKept, AreWithin, memories}
use Rattle.present.proofs.NeededCells.{drop_item}
use Rattle.device.specs.Moves.{Goes, Leads}

-- the memories that are shown are those of the table's device
again : (h : Arrays) (t : Table) (m : Memories) → Are h t m → m ≡ memories h m.device
again h t m a = λ j. record { host = a.host j; device = m.device }

module _ (f : MapItem → Memories → Option Memories) (item : MapItem) (rest : List MapItem) where
  abbrev then : Option Memories → Option Memories
  then o = elim o [ None ↦ None | Some next ↦ in_turn f rest next ]

  pub first_goes : (t : Table) (h : Arrays) → Goes (in_turn f (item ∷ rest)) t h → Goes (f item) t h
  first_goes t h g = go (f item (memories h g.device)) refl g.is
    where
      go : (o : Option Memories) → f item (memories h g.device) ≡ o → then o ≡ Some g.after → Goes (f item) t h
      go None e k = absurd (cc k)
      go (Some m) e k = record { device = g.device; shown = g.shown; after = m; is = e }

  pub rest_goes : (t t' : Table) (h h' : Arrays) → Goes (in_turn f (item ∷ rest)) t h → Leads (f item) t h t' h' →
      Goes (in_turn f rest) t' h'
  rest_goes t t' h h' g leads = go (f item (memories h g.device)) refl g.is
    where
      go : (o : Option Memories) → f item (memories h g.device) ≡ o → then o ≡ Some g.after → Goes (in_turn f rest) t' h'
      go None e k = absurd (cc k)
      go (Some m) e k =
          let a = leads g.device m g.shown e in
          record {
            device = m.device;
            shown = a.shown;
            after = g.after;
            is = sym (ap (in_turn f rest) (again h' t' m a)) ∙ k;
          }

  pub both_lead : (t t' t'' : Table) (h h' h'' : Arrays) → Leads (f item) t h t' h' → Leads (in_turn f rest) t' h' t'' h'' →
      Leads (in_turn f (item ∷ rest)) t h t'' h''
  both_lead t t' t'' h h' h'' first later d m shown e = go (f item (memories h d)) refl e
    where
      go : (o : Option Memories) → f item (memories h d) ≡ o → then o ≡ Some m → Are h'' t'' m
      go None k e = absurd (cc e)
      go (Some x) k e =
          let a = first d x shown k in
          later x.device m a.shown (sym (ap (in_turn f rest) (again h' t' x a)) ∙ e)

pub none_leads : (f : MapItem → Memories → Option Memories) (t : Table) (h : Arrays) → Leads (in_turn f []) t h t h
none_leads f t h d m shown e = subst (λ x. Are h t x) (same_Some (memories h d) m e) (record { host = refl; shown = shown })

-- after the first i of these map items
pub record InTheMidst (f : MapItem → Memories → Option Memories) (maps : List MapItem) (i : ℕ) (t0 : Table) (h0 : Arrays)
    (t : Table) (h : Arrays) : Type 0 where
  pub goes : Goes (in_turn f (drop i maps)) t h
  pub rest : (t' : Table) (h' : Arrays) → Leads (in_turn f (drop i maps)) t h t' h' → Leads (in_turn f maps) t0 h0 t' h'
  pub lengths : lengths_of h ≡ lengths_of h0
  pub kept : IsKept t0 t

module _ (f : MapItem → Memories → Option Memories) (maps : List MapItem) where
  pub begins : (t : Table) (h : Arrays) → Goes (in_turn f maps) t h → InTheMidst f maps 0 t h t h
  begins t h g = record {
    goes = g;
    rest = λ t' h' leads. leads;
    lengths = refl;
    kept = record { capacity = refl; fill = refl };
  }

  module _ (i : ℕ) (t0 : Table) (h0 : Arrays) (t : Table) (h : Arrays) (m : InTheMidst f maps i t0 h0 t h) where
    pub next_goes : (d : MapItem) → i < length maps → Goes (f (get_or maps i d)) t h
    next_goes d lt =
        first_goes f (get_or maps i d) (drop (i + 1) maps) t h
        (subst (λ xs. Goes (in_turn f xs) t h) (drop_item maps i d lt) m.goes)

    pub next_within : (d : MapItem) → i < length maps → AreWithin h0 maps → IsWithin h (get_or maps i d).section
    next_within d lt w = same_within h0 h _ m.lengths (w i (get_or maps i d) (slice_get-get_or maps i d lt))

    pub one_more_item : (d : MapItem) (t' : Table) (h' : Arrays) → i < length maps → Leads (f (get_or maps i d)) t h t' h' →
        lengths_of h' ≡ lengths_of h → IsKept t t' → InTheMidst f maps (i + 1) t0 h0 t' h'
    one_more_item d t' h' lt leads lengths kept = record {
      goes = rest_goes f (get_or maps i d) (drop (i + 1) maps) t t' h h'
          (subst (λ xs. Goes (in_turn f xs) t h) (drop_item maps i d lt) m.goes) leads;
      rest = λ t'' h'' later. m.rest t'' h''
          (subst (λ xs. Leads (in_turn f xs) t h t'' h'') (sym (drop_item maps i d lt))
          (both_lead f (get_or maps i d) (drop (i + 1) maps) t t' t'' h h' h'' leads later));
      lengths = lengths ∙ m.lengths;
      kept = record { capacity = kept.capacity ∙ m.kept.capacity; fill = kept.fill ∙ m.kept.fill };
    }

    pub all_done : length maps ≤ i → Leads (in_turn f maps) t0 h0 t h
    all_done le = m.rest t h (subst (λ xs. Leads (in_turn f xs) t h t h) (sym (drop_all i maps le)) (none_leads f t h))
