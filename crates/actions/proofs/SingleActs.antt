-- What a single action does, from what the calls on the two memories do.
use Rattle.std.proofs.Common.{◌≡◌, ℕ, Bool, true, Option, Some, refl, sym, ◌∙◌, subst}
use Rattle.std.specs.Prelude.{IsSomeAnd, if◌then◌else◌, option_map}
use Rattle.base.specs.declared.item.Cell.{Cell}
use Rattle.host_memory.specs.declared.memory.Memory.{Memory as Arrays}
use Rattle.host_memory.specs.Arrays.{lengths_of, memory_of}
use Rattle.base.specs.Map.{Device, Memories}
use Rattle.base.specs.Memory.{is_cell, same_cell}
use Rattle.fine_machine.specs.Action.{loaded, on_cell, with_host}
use Rattle.fine_machine.specs.Left.{Answer}
use Rattle.fine_machine.specs.Left as left
use Rattle.present.specs.Table.{Are, Shows, memories, number_at}
use Rattle.present.specs.declared.Table.{Table}
use Rattle.actions.specs.declared.action.Given.{Given}
use Rattle.actions.specs.Strand.{side_of}
use Rattle.actions.specs.Acting.{IsDone, answer_of, gives}

module _ (host after : Arrays) (c : Cell) (n : ℕ) (t : Table)
    (set : memory_of after ≡ (λ d. if same_cell c d then n else memory_of host d)) (g : Given) (is : g ≡ gives 0) where
  abbrev Leads : Answer × Memories → Type 0
  Leads p = (p.0 ≡ answer_of g) × Are after t p.1

  leads : (d : Device) → Shows t d → Leads (loaded 0, with_host c n (memories host d))
  leads d sh =
      subst (λ (x : Given). (loaded 0 ≡ answer_of x) × Are after t (with_host c n (memories host d))) (sym is)
      (refl, record { host = sym set; shown = sh })

  pub stores_on_host : (on_host : Bool) → on_host ≡ true → is_cell (lengths_of host) c ≡ true →
      IsDone (left.Store (side_of on_host) c n) g t host t after
  stores_on_host on_host h e =
      subst (λ b. IsDone (left.Store (side_of b) c n) g t host t after) (sym h)
      (λ d sh. subst (λ (b : Bool). IsSomeAnd (on_cell b (loaded 0, with_host c n (memories host d))) Leads) (sym e)
      (leads d sh))

  pub copies_out : number_at t c ≡ Some n → IsDone (left.CopyOut c) g t host t after
  copies_out e d sh =
      subst
      (λ (o : Option ℕ). IsSomeAnd (option_map (λ k. (loaded 0, with_host c k (memories host d))) o) Leads)
      (sym (sh.numbers c ∙ e)) (leads d sh)
