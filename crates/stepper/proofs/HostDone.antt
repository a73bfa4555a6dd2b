-- What a closing does with what the host has.
use Rattle.std.proofs.Common.{◌≡◌, ◌++◌, refl, sym, ap, ◌∙◌, slice_index}
use Rattle.base.specs.declared.item.ItemKind.{ItemKind}
use Rattle.base.specs.declared.item.ItemKind.TheVariants as kind
use Rattle.base.specs.Meaning.{Run as Region_run}
use Rattle.fine_machine.specs.Machine.{State, host_done}
use Rattle.actions.specs.declared.control.Control.{Control}
use Rattle.stepper.specs.declared.standing.Standing.{Standing}
use Rattle.actions.specs.Control.{run_of}
use Rattle.stepper.specs.Standing.{HasLeft}

-- the values that the host has are shown
pub record HasValues (old new : Standing) (s : State) : Type 0 where
  pub scalars : s.scalars ≡ slice_index new.scalars
  pub input : s.input ≡ new.input.now
  pub output : s.output ≡ new.output.items
  pub same : new ≡ record old { scalars = new.scalars; input = new.input; output = new.output }

-- what the host has not taken over stays
pub record Kept (s t : State) : Type 0 where
  pub memories : t.memories ≡ s.memories
  pub condition : t.condition ≡ s.condition
  pub place : t.place ≡ s.place

pub keeps : (k : ItemKind) (t : Region_run) (s : State) → Kept s (host_done k t s)
keeps kind.Host t s = record { memories = refl; condition = refl; place = refl }
keeps kind.Target t s = record { memories = refl; condition = refl; place = refl }
keeps kind.Begin t s = record { memories = refl; condition = refl; place = refl }
keeps kind.End t s = record { memories = refl; condition = refl; place = refl }
keeps kind.Enter t s = record { memories = refl; condition = refl; place = refl }
keeps kind.Exit t s = record { memories = refl; condition = refl; place = refl }
keeps kind.Update t s = record { memories = refl; condition = refl; place = refl }
keeps kind.Wait t s = record { memories = refl; condition = refl; place = refl }

module _ (from mid : Standing) (s : State) (control : Control) (at : HasValues from from s) where
  stays : mid ≡ from → HasValues from mid s
  stays is = record {
    scalars = at.scalars ∙ ap (λ (x : Standing). slice_index x.scalars) (sym is);
    input = at.input ∙ ap (λ (x : Standing). x.input.now) (sym is);
    output = at.output ∙ ap (λ (x : Standing). x.output.items) (sym is);
    same = is ∙ ap (λ (x : Standing). record from { scalars = x.scalars; input = x.input; output = x.output }) (sym is);
  }

  -- of an item at its end
  pub values : (k : ItemKind) → HasLeft k control from mid → HasValues from mid (host_done k (run_of control) s)
  values kind.Host h = record {
    scalars = sym h.scalars;
    input = sym h.input;
    output = ap (λ xs. xs ++ control.strand.printed.items) at.output ∙ sym h.output;
    same = h.rest;
  }
  values kind.Target h = stays h
  values kind.Begin h = stays h
  values kind.End h = stays h
  values kind.Enter h = stays h
  values kind.Exit h = stays h
  values kind.Update h = stays h
  values kind.Wait h = stays h
