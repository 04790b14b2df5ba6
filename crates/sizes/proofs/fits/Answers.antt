-- `sizes::fits` meets its contract.
use Rattle.sizes.proofs.Signed.{width_some, fits_half}
use Rattle.sizes.proofs.fits.Goals as goal

pub returns : goal.returns
returns c =
    let args = c.args in
    rw c.half.ensures.value (fits_half _ (width_some args.size) args.x)
