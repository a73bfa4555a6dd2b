-- A channel into which each number is sent once at most, so that none is received twice.
use Rattle.std.specs.Prelude.{◌≡◌, ◌≤◌, ℕ, ◌+◌, true, false, ◌==◌, List, [], ◌∷◌, ◌++◌, map, if◌then◌else◌}
use Rattle.std.specs.List.{Contains}
use mathlib.Core.Option.{some}
use lib.ListN.{get_elem?}
use Rattle.crossbeam_channel.specs.Claims.{IsSeatAt, view}
use Rattle.crossbeam_channel.specs.Ends.{receives_on, sends_on}
use Rattle.host.specs.declared.channel.Ends.{Ends}
use Rattle.host.specs.declared.channel.Known.{Known}
use Rattle.host.specs.declared.channel.Received.{Received}
use Rattle.host.specs.declared.channel.Received.TheVariants.{Item, Nothing, Closed}

-- how often a number stands in a list
abbrev pub times : ℕ → List ℕ → ℕ
times x [] = 0
times x (y ∷ ys) = (if y == x then 1 else 0) + times x ys

-- each of these is one of those
abbrev pub AreAmong : {T : Type 0} → List T → List T → Type 0
AreAmong {T} xs ys = (x : T) → Contains xs x → Contains ys x

module _ {T : Type 0} where
  -- a sending end, which knows what was ever sent
  abbrev pub sending : List T → Known T
  sending items = record { sends = true; sent = items; got = [] }

  -- a receiving end, which knows what it received
  abbrev pub receiving : List T → Known T
  receiving items = record { sends = false; sent = []; got = items }

  -- the sending end, to which a receiving end shows what it received
  abbrev pub shown : Known T → Known T → Known T
  shown v w = record { sends = v.sends; sent = v.sent; got = w.got }

  module _ (number : T → ℕ) where
    -- how often an end received a number
    abbrev pub got_by : ℕ → Known T → ℕ
    got_by x v = times x (map number v.got)

    -- how often all ends together did
    abbrev pub got_by_all : ℕ → List (Known T) → ℕ
    got_by_all x [] = 0
    got_by_all x (v ∷ vs) = got_by x v + got_by_all x vs

  -- the sending end is one, and knows what was sent
  abbrev pub IsSender : ℕ → List T → ℕ → Known T → Type 0
  IsSender seat sent pass v = v.sends ≡ true → (pass ≡ seat) × (v.sent ≡ sent)

  -- What was ever sent is of pairwise different numbers: each was sent once at most. It is what was received, by whichever
  -- end, and what the channel holds. So none is received twice
  abbrev pub IsEachOnce : (T → ℕ) → List T → List (Known T) → Type 0
  IsEachOnce number items views =
      (seat : ℕ) × (sent : List T)
      × ((x : ℕ) → times x (map number sent) ≤ 1)
      × ((x : ℕ) → times x (map number sent) ≡ got_by_all number x views + times x (map number items))
      × ((pass : ℕ) (v : Known T) → get_elem? views pass ≡ some v → IsSender seat sent pass v × AreAmong v.got sent)
      × AreAmong items sent

  -- an item is received whose number this end did not receive before
  abbrev pub IsReceipt : (T → ℕ) → Known T → T → Known T → Type 0
  IsReceipt number v x w = (w ≡ receiving (v.got ++ x ∷ [])) × (times (number x) (map number v.got) ≡ 0)

  -- the same of what was received, if anything
  abbrev pub IsGot : (T → ℕ) → List T → Received T → List T → Type 0
  IsGot number old (Item x) new = (new ≡ old ++ x ∷ []) × (times (number x) (map number old) ≡ 0)
  IsGot number old Nothing new = new ≡ old
  IsGot number old Closed new = new ≡ old

  -- the ends of a channel through which nothing was sent
  abbrev pub IsNew : Ends T → Type 0
  IsNew e =
      IsSeatAt (sends_on e.sender) e.pass × (view e.pass ≡ sending []) × (receives_on e.receiver ≡ sends_on e.sender)
