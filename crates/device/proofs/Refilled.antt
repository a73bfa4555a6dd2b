-- A frame that took the numbers of its table, and the table, which looks the same.
use Rattle.std.proofs.Common.{◌≡◌, ℕ, zero, suc, List, [], ◌∷◌, Option, refl, sym, ap, ◌∙◌, subst}
use Rattle.std.specs.List.{slice_set}
use Rattle.base.specs.declared.item.ItemKind.{ItemKind}
use Rattle.host_memory.specs.declared.memory.Memory.{Memory as Arrays}
use Rattle.frames.specs.Reach.{in_reach}
use Rattle.frames.specs.Views.{every}
use Rattle.kernel.specs.declared.frames.Frame.{Frame}
use Rattle.present.specs.Rows.{over}
use Rattle.base.specs.Map.{Device, Memories}
use Rattle.present.specs.declared.Table.{Table}
use Rattle.present.specs.Table.{IsUnchanged, Shows, number_at}
use Rattle.device.specs.declared.frame.Unfilled.{Unfilled}
use Rattle.device.specs.Opening.{HasCells, IsFilled}
use Rattle.device.specs.declared.devices.Devices.{Devices}
use Rattle.device.specs.Devices.{AreKept, Becomes, LooksTheSame}
use Rattle.device.specs.Moves.{Leads}
use Rattle.present.proofs.SameHost.{shows_unchanged}
use Rattle.device.proofs.Tables.{are_kept, here, same_table}

set_again : {A : Type 0} (xs : List A) (i : ℕ) (x y : A) → slice_set (slice_set xs i x) i y ≡ slice_set xs i y
set_again [] i x y = refl
set_again (z ∷ xs) zero x y = refl
set_again (z ∷ xs) (suc i) x y = ap (λ zs. z ∷ zs) (set_again xs i x y)

module _ (d : ℕ) (old now new : Devices) (tab : Table) (b : Becomes d old now tab) (same : LooksTheSame d now new) where
  -- the table that looks the same is the one that it became before
  is_before : tab ≡ same.becomes.before
  is_before = same_table now d tab same.becomes.before (here d old now tab b) same.becomes.was

  pub becomes_again : Becomes d old new same.after
  becomes_again = record {
    before = b.before;
    was = b.was;
    tables = same.becomes.tables ∙ ap (λ ts. slice_set ts d same.after) b.tables ∙ set_again old.tables d tab same.after;
    kept = record {
      capacity = same.becomes.kept.capacity ∙ ap (λ (t : Table). t.capacity) (sym is_before) ∙ b.kept.capacity;
      fill = same.becomes.kept.fill ∙ (λ i c. (sym is_before i).fresh) ∙ b.kept.fill;
    };
  }

  -- what led to the table that it became leads to the one that looks the same
  pub leads_again : (rule : Table → Memories → Option Memories) (host after : Arrays) →
      Leads (rule b.before) b.before host tab after →
      Leads (rule becomes_again.before) becomes_again.before host same.after after
  unfolding becomes_again
  leads_again rule host after h x m shown is =
      let are = h x m shown is in
      record {
        host = are.host;
        shown = shows_unchanged same.becomes.before same.after same.unchanged m.device
            (subst (λ (t : Table). Shows t m.device) is_before are.shown);
      }

pub kept_again : (d : ℕ) (old now new : Devices) → AreKept old now → LooksTheSame d now new → AreKept old new
kept_again d old now new h same =
    let k = are_kept d now new same.after same.becomes in
    record { fresh = k.fresh ∙ h.fresh; room = λ capacity r. k.room capacity (h.room capacity r) }

pub target_filled : (kind : ItemKind) (u : Unfilled) (t : Table) (new : Frame) → kind ≡ ItemKind.Target →
    HasCells u.frame (in_reach u.reach.now (over (number_at t) (every 0))) new → IsFilled kind u t new
target_filled kind u t new e h = subst (λ (k : ItemKind). IsFilled k u t new) (sym e) h
