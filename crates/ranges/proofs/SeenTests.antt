-- What one touch does with the tests of a cell. e: it was exposed; u: it was surely written; m: the touch has it; later:
-- it is exposed, or surely written, by a later touch.
use Rattle.std.proofs.Common.{◌≡◌, Bool, true, false, refl}
use Rattle.std.specs.Prelude.{not, ◌&&◌, ◌||◌}

pub exposed_write : (e u certain single m later : Bool) →
    (e || (not (u || ((certain && single) && m)) && later))
    ≡ (e || (not u && (not (true && (certain && (single && m))) && ((not true && m) || later))))
exposed_write true u certain single m later = refl
exposed_write false true certain single m later = refl
exposed_write false false true true true later = refl
exposed_write false false true true false later = refl
exposed_write false false true false m later = refl
exposed_write false false false single m later = refl

pub exposed_read : (e u k m later : Bool) →
    ((e || (m && not u)) || (not u && later))
    ≡ (e || (not u && (not (false && k) && ((not false && m) || later))))
exposed_read true u k m later = refl
exposed_read false true k true later = refl
exposed_read false true k false later = refl
exposed_read false false k true later = refl
exposed_read false false k false later = refl

pub sure_write : (u certain single m later : Bool) →
    ((u || ((certain && single) && m)) || later) ≡ (u || ((true && (certain && (single && m))) || later))
sure_write true certain single m later = refl
sure_write false true true m later = refl
sure_write false true false m later = refl
sure_write false false single m later = refl
