-- The start of a run.
use Rattle.std.proofs.Common.{◌≡◌, ℕ, zero, suc, false, List, [], ◌∷◌, map, length, Option, Some, None, refl, sym, ap, ap₂, ◌∙◌}
use Rattle.std.specs.Prelude.{replicate, option_map, slice_get, slice_index}
use Rattle.std.proofs.lemmas.Bool.{true≢false}
use Rattle.std.proofs.lemmas.List.{length-map, length-replicate}
use Rattle.base.specs.declared.item.Item.{Item}
use Rattle.host_memory.specs.Arrays.{memory_of, lengths_of}
use Rattle.base.specs.Memory.{zeros}
use Rattle.base.specs.Items.{Work, Plan}
use Rattle.base.specs.Machine.{start}
use Rattle.outline.specs.Regions.{Entry}
use Rattle.outline.specs.Shown.{all_shown, as_shown, shown, work_with}
use Rattle.device.specs.Devices.{AreAlike, ShowAll}
use Rattle.taskgraph.specs.Board.{IsNew, facts_of, item_facts}
use Rattle.device.specs.declared.standing.Held.{Held}
use Rattle.device.specs.declared.standing.Held.TheVariants.{Nothing}
use Rattle.device.specs.declared.standing.Standing.{Standing}
use Rattle.device.specs.Standing.{Issue, IsAt, issue_of, place_of}

-- an item is shown as a work with the same facts
pub shown_facts : (entries : List Entry) (it : Item) (w : Work) → shown entries it ≡ Some w → facts_of w ≡ item_facts it
shown_facts entries it w e = go it.region e
  where
    known : (v : Work) → facts_of v ≡ item_facts it → Some v ≡ Some w → facts_of w ≡ item_facts it
    known v h e = let same : v ≡ w = cc in ap facts_of (sym same) ∙ h

    inner : (o : Option Entry) → option_map (λ (x : Entry). work_with it (Some x.region)) o ≡ Some w →
        facts_of w ≡ item_facts it
    inner None e = absurd cc
    inner (Some x) e = known (work_with it (Some x.region)) refl e

    go : (o : Option ℕ) → (elim o [
      | None ↦ Some (work_with it None)
      | Some k ↦ option_map (λ (x : Entry). work_with it (Some x.region)) (slice_get entries k)
    ]) ≡ Some w → facts_of w ≡ item_facts it
    go None e = known (work_with it None) refl e
    go (Some k) e = inner (slice_get entries k) e

pub all_facts : (entries : List Entry) (its : List Item) (ws : List Work) → all_shown entries its ≡ as_shown ws →
    map facts_of ws ≡ map item_facts its
all_facts entries [] [] e = refl
all_facts entries [] (w ∷ ws) e = absurd cc
all_facts entries (it ∷ its) [] e = absurd cc
all_facts entries (it ∷ its) (w ∷ ws) e =
    let first : shown entries it ≡ Some w = cc in
    let rest : all_shown entries its ≡ as_shown ws = cc in
    ap₂ ◌∷◌ (shown_facts entries it w first) (all_facts entries its ws rest)

pub as_many : (entries : List Entry) (its : List Item) (ws : List Work) → all_shown entries its ≡ as_shown ws →
    length its ≡ length ws
as_many entries its ws e =
    sym (length-map its (shown entries)) ∙ ap (λ (xs : List (Option Work)). length xs) e
    ∙ length-map ws (λ w. Some w)

pub issue_none : (n : ℕ) → map issue_of (replicate n Nothing) ≡ replicate n None
issue_none zero = refl
issue_none (suc n) = ap (λ (xs : List (Option Issue)). None ∷ xs) (issue_none n)

pub record IsFresh (plan : Plan) (its : List Item) (input : List ℕ) (now : Standing) : Type 0 where
  pub zeros : memory_of now.host ≡ zeros
  pub lengths : lengths_of now.host ≡ plan.lengths
  pub empty : ShowAll now.devices (λ d. record { blocks = []; cells = λ c. None })
  pub alike : AreAlike now.devices
  pub graph : IsNew its now.graph
  pub ended : now.ended ≡ false
  pub scalars : now.scalars ≡ []
  pub given : now.input.now ≡ input
  pub output : now.output ≡ []
  pub held : now.held.items ≡ replicate (length its) Nothing

pub started : (plan : Plan) (entries : List Entry) (its : List Item) (input : List ℕ) (now : Standing) →
    all_shown entries its ≡ as_shown plan.items → IsFresh plan its input now → IsAt plan now (start input)
started plan entries its input now e h =
    let stands = h.graph plan input (all_facts entries its plan.items e) in
    record {
      host = sym h.zeros;
      lengths = h.lengths;
      devices = h.empty;
      alike = h.alike;
      counts = λ d. tt;
      graph = record { items = stands.items; place = refl; conditions = stands.conditions };
      place = stands.place ∙ ap (λ b. place_of b now.graph.place) (sym h.ended);
      ended = λ d. absurd (true≢false (sym d ∙ h.ended));
      scalars = ap (λ (xs : List ℕ). slice_index xs) (sym h.scalars);
      input = sym h.given;
      output = sym h.output;
      slots = ap (λ (xs : List Held). length xs) h.held ∙ length-replicate (length its) Nothing
          ∙ as_many entries its plan.items e;
      held = λ i w at. tt;
    }
