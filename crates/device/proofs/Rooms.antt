-- Room on the devices, event by event.
use Rattle.std.proofs.Common.{◌≡◌, ◌<◌, ◌≤◌, ◌++◌, ◌⊎◌, ℕ, List, [], ◌∷◌, inl, inr, length, take, sym, ap, ◌∙◌, subst, arith}
use Rattle.std.proofs.Math.Seq.{take-nil}
use Rattle.std.proofs.lemmas.Bool.{cases_lt}
use Rattle.std.proofs.lemmas.List.{length-append, take_all, take-append-le}
use Rattle.base.specs.declared.item.Answer.{Answer}
use Rattle.base.specs.declared.item.Event.{Event}
use Rattle.base.specs.declared.tree.Program.{Program}
use Rattle.base.specs.Items.{plan}
use Rattle.base.specs.Map.{Fill, in_use}
use Rattle.device.specs.Leading.{IsNext}
use Rattle.device.specs.Room.{HasRoomAfter, HasStayed, IsAnswerWithin, StaysWithin}
use Rattle.device.specs.Run.{Run, fill_in, state_of}
use Rattle.device.specs.Running.{IsReached}
use Rattle.device.specs.Standing.{IsAt}
use Rattle.device.specs.declared.standing.Standing.{Standing}
use Rattle.device.specs.Devices.{HaveRoom, device_count}
use Rattle.device.proofs.Tables.{own_table}

-- no device has more cells in use than there is room for
abbrev pub AreInRoom : Run → Type 0
AreInRoom r = (d : ℕ) → d < device_count → in_use ((state_of r).memories.devices d).blocks ≤ r.capacity

-- no table has
pub no_more_in_use : (r : Run) (now : Standing) → IsAt (plan r.program) now (state_of r) →
    HaveRoom now.devices r.capacity → AreInRoom r
no_more_in_use r now at room d lt =
    let own = own_table now.devices at.alike d lt in
    let shown = (at.devices d own.0 own.1).in_use in
    let most = own.0.room in
    let all = room d own.0 own.1 in
    omega arith

module _ (p : Program) (fill : ℕ → Fill) (input : List ℕ) (capacity : ℕ) where
  -- room after each of some events, and after one event more
  one_more : (events : List Event) (e : Event) → StaysWithin p fill input capacity events →
      HasRoomAfter p fill input capacity (events ++ e ∷ []) → StaysWithin p fill input capacity (events ++ e ∷ [])
  one_more events e stays last k = go (cases_lt (length events) k)
    where
      go : (length events < k) ⊎ (k ≤ length events) → HasRoomAfter p fill input capacity (take k (events ++ e ∷ []))
      go (inl more) =
          let n : length (events ++ e ∷ []) ≤ k = (let l = length-append events (e ∷ []) in omega arith) in
          subst (HasRoomAfter p fill input capacity) (sym (take_all k (events ++ e ∷ []) n)) last
      go (inr few) = subst (HasRoomAfter p fill input capacity) (sym (take-append-le k events (e ∷ []) few)) (stays k)

-- a run that has had room at each event still has it after the next
pub has_stayed : (r r' : Run) (e : Event) → HasStayed r → IsNext r r' e → IsReached r' →
    AreInRoom r' → HasStayed r'
has_stayed r r' e stays is reached room =
    subst (StaysWithin r'.program (fill_in r') r'.input r'.capacity) (sym is.history)
    (one_more r'.program (fill_in r') r'.input r'.capacity r.history e moved
    (subst (HasRoomAfter r'.program (fill_in r') r'.input r'.capacity) is.history
    (record { state = state_of r'; ran = reached.ran; room = room })))
  where
    moved : StaysWithin r'.program (fill_in r') r'.input r'.capacity r.history
    moved =
        subst (λ q. StaysWithin q (fill_in r') r'.input r'.capacity r.history) (sym is.program)
        (subst (λ f. StaysWithin r.program (λ i c. f) r'.input r'.capacity r.history) (sym is.fresh)
        (subst (λ i. StaysWithin r.program (fill_in r) i r'.capacity r.history) (sym is.input)
        (subst (λ n. StaysWithin r.program (fill_in r) r.input n r.history) (sym is.capacity) stays)))

-- a run that has done nothing has had room
pub nothing_done : (r : Run) → IsReached r → r.history ≡ [] →
    AreInRoom r → HasStayed r
nothing_done r reached none room k =
    subst (HasRoomAfter r.program (fill_in r) r.input r.capacity) (none ∙ sym (take-nil k) ∙ ap (λ h. take k h) (sym none))
    (record { state = state_of r; ran = reached.ran; room = room })

-- the answer of a run that has had room shows a run that has
pub answer_within : (r : Run) (p : Program) (input : List ℕ) (capacity : ℕ) (a : Answer) → IsReached r → HasStayed r →
    r.program ≡ p → r.input ≡ input → r.capacity ≡ capacity → a.history.items ≡ r.history →
    IsAnswerWithin p input capacity a
answer_within r p input capacity a reached stays program given room history = record {
  fill = fill_in r;
  is_fill = λ i c. reached.fresh;
  stays =
      subst (λ q. StaysWithin q (fill_in r) input capacity a.history.items) program
      (subst (λ i. StaysWithin r.program (fill_in r) i capacity a.history.items) given
      (subst (λ n. StaysWithin r.program (fill_in r) r.input n a.history.items) room
      (subst (StaysWithin r.program (fill_in r) r.input r.capacity) (sym history) stays)));
}
