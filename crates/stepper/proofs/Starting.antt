-- The start of a run.
use Rattle.std.proofs.Common.{◌≡◌, ℕ, false, List, [], length, refl, sym, ap, ◌∙◌}
use Rattle.std.specs.Prelude.{replicate, slice_index, None}
use Rattle.std.proofs.lemmas.Bool.{true≢false}
use Rattle.std.proofs.lemmas.List.{length-replicate}
use Rattle.base.specs.declared.item.Item.{Item}
use Rattle.host_memory.specs.Arrays.{memory_of, lengths_of}
use Rattle.base.specs.Memory.{zeros}
use Rattle.base.specs.Items.{Plan}
use Rattle.fine_machine.specs.Machine.{start}
use Rattle.outline.specs.Regions.{Entry}
use Rattle.outline.specs.Shown.{all_shown, as_shown}
use Rattle.device.specs.Devices.{AreAlike, ShowAll}
use Rattle.device.proofs.Starts.{all_facts, as_many}
use Rattle.taskgraph.specs.Board.{IsNew}
use Rattle.stepper.specs.declared.standing.Slot.{Slot}
use Rattle.stepper.specs.declared.standing.Slot.TheVariants.{Nothing}
use Rattle.stepper.specs.declared.standing.Standing.{Standing}
use Rattle.stepper.specs.Standing.{IsAt, place_of}

pub record IsFresh (plan : Plan) (its : List Item) (input : List ℕ) (now : Standing) : Type 0 where
  pub zeros : memory_of now.host ≡ zeros
  pub lengths : lengths_of now.host ≡ plan.lengths
  pub empty : ShowAll now.devices (λ d. record { blocks = []; cells = λ c. None })
  pub alike : AreAlike now.devices
  pub graph : IsNew its now.graph
  pub ended : now.ended ≡ false
  pub scalars : now.scalars ≡ []
  pub given : now.input.now ≡ input
  pub output : now.output.items ≡ []
  pub slots : now.slots.items ≡ replicate (length its) Nothing

pub started : (plan : Plan) (entries : List Entry) (its : List Item) (input : List ℕ) (now : Standing) →
    all_shown entries its ≡ as_shown plan.items → IsFresh plan its input now → IsAt plan now (start input)
started plan entries its input now e h =
    let stands = h.graph plan input (all_facts entries its plan.items e) in
    record {
      host = sym h.zeros;
      lengths = h.lengths;
      devices = h.empty;
      alike = h.alike;
      counts = λ d. tt;
      graph = record { items = stands.items; place = refl; conditions = stands.conditions };
      place = stands.place ∙ ap (λ b. place_of b now.graph.place) (sym h.ended);
      ended = λ d. absurd (true≢false (sym d ∙ h.ended));
      here = λ i w is now o. absurd (true≢false (sym o));
      scalars = ap (λ (xs : List ℕ). slice_index xs) (sym h.scalars);
      input = sym h.given;
      output = sym h.output;
      slots = ap (λ (xs : List Slot). length xs) h.slots ∙ length-replicate (length its) Nothing
          ∙ as_many entries its plan.items e;
      kept = λ i lt. tt;
    }
