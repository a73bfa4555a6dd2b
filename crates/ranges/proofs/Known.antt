-- Each cell that was read is exposed or was surely written.
use Rattle.std.proofs.Common.{◌≡◌, Bool, true, false, refl, sym, ap, ◌∙◌}
use Rattle.std.specs.Prelude.{not, ◌&&◌, ◌||◌}
use Rattle.base.specs.declared.item.Cell.{Cell}
use Rattle.ranges.specs.Cells.{AreKnown}

pub known_same : (exposed read sure new : Cell → Bool) → AreKnown exposed read sure → new ≡ exposed → AreKnown new read
    sure
known_same exposed read sure new all e c h = ap (λ f. f c || sure c) e ∙ all c h

still : (e u x : Bool) → (e || u) ≡ true → ((e || x) || u) ≡ true
still true u x h = refl
still false true true h = refl
still false true false h = refl
still false false x h = absurd cc

-- where more is exposed
pub known_exposed : (exposed read sure new more : Cell → Bool) → AreKnown exposed read sure →
    new ≡ (λ c. exposed c || more c) →
    AreKnown new read sure
known_exposed exposed read sure new more all e c h =
    ap (λ f. f c || sure c) e ∙ still (exposed c) (sure c) (more c) (all c h)

surer : (e u x : Bool) → (e || u) ≡ true → (e || (u || x)) ≡ true
surer true u x h = refl
surer false true x h = refl
surer false false x h = absurd cc

-- where more is surely written
pub known_sure : (exposed read sure new more : Cell → Bool) → AreKnown exposed read sure →
    new ≡ (λ c. sure c || more c) →
    AreKnown exposed read new
known_sure exposed read sure new more all e c h =
    ap (λ f. exposed c || f c) e ∙ surer (exposed c) (sure c) (more c) (all c h)

pub sure_same : (exposed read sure new : Cell → Bool) → AreKnown exposed read sure → new ≡ sure → AreKnown exposed read
    new
sure_same exposed read sure new all e c h = ap (λ f. exposed c || f c) e ∙ all c h

one_read : (e u r m : Bool) → (r ≡ true → (e || u) ≡ true) → (r || m) ≡ true → ((e || (m && not u)) || u) ≡ true
one_read true u r m all h = refl
one_read false true r true all h = refl
one_read false true r false all h = refl
one_read false false r true all h = refl
one_read false false true false all h = all refl
one_read false false false false all h = h

-- where more is read, and exposed but where it was surely written
pub known_read : (exposed read sure new now more : Cell → Bool) → AreKnown exposed read sure →
    new ≡ (λ c. exposed c || (more c && not (sure c))) →
    now ≡ (λ c. read c || more c) →
    AreKnown new now sure
known_read exposed read sure new now more all e f c h =
    ap (λ g. g c || sure c) e
    ∙ one_read (exposed c) (sure c) (read c) (more c) (all c) (sym (ap (λ g. g c) f) ∙ h)

pub read_same : (exposed read sure now : Cell → Bool) → AreKnown exposed read sure → now ≡ read → AreKnown exposed now
    sure
read_same exposed read sure now all e c h = all c (sym (ap (λ g. g c) e) ∙ h)

pub nothing_known : (exposed read sure : Cell → Bool) → read ≡ (λ c. false) → AreKnown exposed read sure
nothing_known exposed read sure e c h = let g : read c ≡ false = ap (λ f. f c) e in absurd cc
