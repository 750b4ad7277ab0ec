-- The definition agrees with the published figures: one computed fact.
-- Assumes nothing.
use Rattle.water.specs.If97.{enthalpy, volume}
use Rattle.water.specs.Verification.{Verified}

pub verified : Verified
unfolding enthalpy volume
verified = tt
