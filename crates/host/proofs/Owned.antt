-- As long as an item is open, its job is what was issued for it.
use Rattle.std.proofs.Common.{◌≡◌, ◌<◌, ℕ, zero, suc, Bool, true, List, [], ◌∷◌, ◌++◌, length, map, Option, Some, None, refl, sym, ap, ◌∙◌, subst, ⊎_elim, arith}
use Rattle.std.specs.Prelude.{◌==◌, if◌then◌else◌, slice_get, slice_index_or}
use Rattle.std.specs.List.{Contains, slice_set}
use Rattle.std.proofs.lemmas.Bool.Decides.{nat_tests}
use Rattle.std.proofs.lemmas.List.Elements.{Contains-push_cases}
use Rattle.std.proofs.lemmas.Option.{same_Some}
use Rattle.base.specs.declared.item.Event.{Event}
use Rattle.base.specs.declared.item.Event.TheVariants.{Gen, Open, Step, Close, Wait, End}
use Rattle.base.specs.declared.tree.Program.{Program}
use Rattle.base.specs.declared.tree.Region.{Region}
use Rattle.base.specs.Items.{plan}
use Rattle.base.specs.Machine.{enabled}
use Rattle.base.proofs.Places.{get_set_other}
use Rattle.kernel.specs.declared.frames.Frame.{Frame}
use Rattle.device.specs.declared.jobs.Job.{Job}
use Rattle.device.specs.Jobs.{AreIssued, IsIssuedDone, IsJob, statements_of}
use Rattle.device.specs.Run.{Run, state_of}
use Rattle.device.specs.Same.{same_list}
use Rattle.device.specs.Standing.{Issue, frame_parts}
use Rattle.device.specs.Taking.{HasDone}
use Rattle.host.specs.Looks.{HasJob}
use Rattle.host.specs.Once.{times}
use Rattle.host.specs.Sent.{AreOwn, IsOwn, item_of}

abbrev part : Bool → ℕ
part b = if b then 1 else 0

itself : (n : ℕ) → (n == n) ≡ true
itself n = grind (arith, nat_tests)

-- a number that stands nowhere is that of no element
absent_at : {T : Type 0} (number : T → ℕ) (xs : List T) (y : ℕ) (x : T) (k : ℕ) → times y (map number xs) ≡ 0 → k < length xs →
    slice_index_or xs k x ≡ x → number x ≡ y → ⊥
absent_at number [] y x k none h is e = omega arith
absent_at number (z ∷ zs) y x zero none h is e =
    let same : (number z == y) ≡ true = ap (λ n. n == y) (ap number is ∙ e) ∙ itself y in
    let one : part (number z == y) ≡ 1 = ap part same in
    omega (arith, none, one)
absent_at number (z ∷ zs) y x (suc k) none h is e = absent_at number zs y x k (omega arith) (omega arith) is e

pub absent : {T : Type 0} (number : T → ℕ) (xs : List T) (y : ℕ) → times y (map number xs) ≡ 0 → (x : T) → Contains xs x →
    number x ≡ y → ⊥
absent number xs y none x c e = absent_at number xs y x c.0 none c.1 c.2 e

-- what is kept for no item was not issued now
none_issued : (frames : List (Option Issue)) (i k : ℕ) (p : Issue) → slice_get (slice_set frames i None) k ≡ Some (Some p) →
    slice_get frames k ≡ Some (Some p)
none_issued [] i k p e = e
none_issued (x ∷ xs) zero zero p e = absurd (cc e)
none_issued (x ∷ xs) zero (suc k) p e = e
none_issued (x ∷ xs) (suc i) zero p e = e
none_issued (x ∷ xs) (suc i) (suc k) p e = none_issued xs i k p e

-- a run of the same program that has issued nothing else for the item of a job
own_less : (old new : Run) (j : Job) → new.program ≡ old.program →
    ((p : Issue) → slice_get new.issued j.frame.item ≡ Some (Some p) → slice_get old.issued j.frame.item ≡ Some (Some p)) →
    IsOwn old j → IsOwn new j
own_less old new j same less own = (
  (λ p e. own.0 p (less p e)),
  (λ w at. own.1 w (ap (λ (q : Program). slice_get (plan q).items j.frame.item) (sym same) ∙ at)),
)

-- an event leaves the jobs as what was issued, where it opens none of their items
pub event_own : (old new : Run) (e : Event) (jobs : List Job) → HasDone e old new →
    ((i : ℕ) → e ≡ Open i → times i (map item_of jobs) ≡ 0) → AreOwn old jobs → AreOwn new jobs
event_own old new (Gen i) jobs is none own j c =
    own_less old new j (ap (λ (r : Run). r.program) is)
    (λ p e. none_issued old.issued i j.frame.item p (ap (λ (r : Run). slice_get r.issued j.frame.item) (sym is) ∙ e)) (own j c)
event_own old new (Close i) jobs is none own j c =
    own_less old new j (ap (λ (r : Run). r.program) is)
    (λ p e. none_issued old.issued i j.frame.item p (ap (λ (r : Run). slice_get r.issued j.frame.item) (sym is) ∙ e)) (own j c)
event_own old new (Step i) jobs is none own j c =
    own_less old new j (ap (λ (r : Run). r.program) is) (λ p e. ap (λ (r : Run). slice_get r.issued j.frame.item) (sym is) ∙ e)
    (own j c)
event_own old new (Wait i) jobs is none own j c =
    own_less old new j (ap (λ (r : Run). r.program) is) (λ p e. ap (λ (r : Run). slice_get r.issued j.frame.item) (sym is) ∙ e)
    (own j c)
event_own old new End jobs is none own j c =
    own_less old new j (ap (λ (r : Run). r.program) is) (λ p e. ap (λ (r : Run). slice_get r.issued j.frame.item) (sym is) ∙ e)
    (own j c)
event_own old new (Open i) jobs h none own j c =
    own_less old new j (ap (λ (r : Run). r.program) h.is)
    (λ p e. sym (get_set_other old.issued i (Some h.frame) j.frame.item (λ k. absent item_of jobs i (none i refl) j c (sym k)))
    ∙ ap (λ (r : Run). slice_get r.issued j.frame.item) (sym h.is) ∙ e)
    (own j c)

-- what an opening issued is what its job has
job_own : (r : Run) (i : ℕ) (job : Job) → IsJob r i job → IsOwn r job
job_own r i job is = (
  (λ p e. same_Some p (frame_parts job.frame)
      (same_Some (Some p) (Some (frame_parts job.frame)) (sym e ∙ is.issued.is_held))),
  is.issued.has_statements,
)

-- one job more
pub more_own : (r : Run) (i : ℕ) (jobs : List Job) (job : Job) → AreOwn r jobs → IsJob r i job → AreOwn r (jobs ++ job ∷ [])
more_own r i jobs job own is j c =
    ⊎_elim (own j) (λ (e : job ≡ j). subst (IsOwn r) e (job_own r i job is)) (Contains-push_cases jobs job j c)

-- no job at all
pub none_own : (r : Run) → AreOwn r []
none_own r j c = absurd (let k : c.0 < 0 = c.1 in omega (arith, k))

-- what was computed of a job is what was issued, where its item is open
pub own_is_issued : (r : Run) (jobs : List Job) (region : Region) (frame : Frame) → AreIssued r → AreOwn r jobs →
    HasJob jobs region frame → enabled (plan r.program) (state_of r) (Close frame.item) ≡ true → IsIssuedDone r region frame
own_is_issued r jobs region frame issued own has may =
    let k = own has.0 has.1 in
    let code = has.2 in
    let same = has.3 in
    let p = issued frame.item may in
    record {
      is_open = may;
      is_held =
          p.1
          ∙ ap (λ (x : Issue). Some (Some x))
          (k.0 p.0 (ap (λ (f : Frame). slice_get r.issued f.item) same ∙ p.1) ∙ ap frame_parts same);
      has_statements = λ w at.
          ap (λ (x : Region). same_list (statements_of w.region) x.body.items) (sym code)
          ∙ k.1 w (ap (λ (f : Frame). slice_get (plan r.program).items f.item) same ∙ at);
    }
