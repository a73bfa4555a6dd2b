-- A receiving end shows the sending end what it received, which was sent.
use Rattle.std.proofs.Common.{◌≡◌, ◌≢◌, ◌+◌, ℕ, true, [], map, set, sym, refl, ap, subst, ⊎_elim, arith}
use mathlib.Core.Option.{some}
use lib.ListN.{get_elem?}
use Rattle.atomic_table.proofs.Lists.{at_set}
use Rattle.crossbeam_channel.specs.Fifo.{Forks, Learns, Merges}
use Rattle.host.specs.declared.channel.Known.{Known}
use Rattle.host.specs.Once.{AreAmong, IsEachOnce, got_by, got_by_all, receiving, sending, shown, times}
use Rattle.host.proofs.Among.{IsEnd, ends_set, no_sender, none_among}
use Rattle.host.proofs.Sending.{all_set, forks_as}

module _ {T : Type 0} (number : T → ℕ) where
  pub shows : (pass : ℕ) (v : Known T) (other : ℕ) (w : Known T) → v ≡ sending v.sent →
      Merges (IsEachOnce number) pass v other w (shown v w) (receiving [])
  shows pass v other w is items views h at apart there = (h.0, h.1, h.2, all, ends, h.5)
    where
      both : Known T
      both = shown v w

      theirs : get_elem? views other ≡ some w
      theirs =
          ⊎_elim (λ (t : (other ≡ pass) × (both ≡ w)). absurd (apart t.0))
          (λ (t : (other ≢ pass) × (get_elem? views other ≡ some w)). t.1) (at_set views pass other both w there)

      all : (y : ℕ) → times y (map number h.1) ≡ got_by_all number y (set (set views pass both) other (receiving [])) + times y (map number items)
      all y =
          let a = all_set number y views pass v both at in
          let b = all_set number y (set views pass both) other w (receiving []) there in
          let c = h.3 y in
          let d : got_by number y v ≡ 0 = ap (got_by number y) is in
          omega (arith, a, b, c, d)

      ends : (p : ℕ) (u : Known T) → get_elem? (set (set views pass both) other (receiving [])) p ≡ some u → IsEnd h.0 h.1 p u
      ends =
          ends_set h.0 h.1 (set views pass both) other (receiving []) (no_sender h.0 h.1 other (receiving []) refl, none_among h.1)
          (λ p u _ e. ends_set h.0 h.1 views pass both ((h.4 pass v at).0, (h.4 other w theirs).1) (λ q t _ f. h.4 q t f) p u e)

  -- while it is shown, what was received is among what was sent
  pub learns : (pass : ℕ) (v : Known T) → v.sends ≡ true → Learns (IsEachOnce number) pass v (λ items. AreAmong v.got v.sent)
  learns pass v is items views h at =
      let k = h.4 pass v at in
      subst (λ sent. AreAmong v.got sent) (sym (k.0 is).1) k.1

  pub leaves : (pass : ℕ) (v : Known T) → v.sends ≡ true →
      Forks (IsEachOnce number) pass v (sending v.sent) (receiving v.got)
  leaves pass v is =
      forks_as number pass v (sending v.sent) (receiving v.got) (λ x. omega arith)
      (λ seat sent h. ((λ _. h.0 is), none_among sent))
      (λ seat sent p h. (no_sender seat sent p (receiving v.got) refl, h.1))
