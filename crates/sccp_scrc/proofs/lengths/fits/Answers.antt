use Rattle.sccp_scrc.proofs.Fits.{short_fits, extended_fits, long_fits}
use Rattle.sccp_scrc.proofs.lengths.fits.Goals as goal

pub returns-in-Udt : goal.returns-in-Udt
returns-in-Udt c = λ e f.
    short_fits c.args.message.now c.args.called.now c.in-Udt.calling c.in-Udt.payload c.as_slice-in-Udt.result.now
    c.address_length-front.result c.address_length-in-Udt.result f
    (c.fits_short.ensures e) c.address_length-front.ensures.enough c.address_length-in-Udt.ensures.enough c.as_slice-in-Udt.ensures
    c.in-Udt.is

pub returns-in-Xudt : goal.returns-in-Xudt
returns-in-Xudt c = λ e f.
    extended_fits c.args.message.now c.args.called.now c.in-Xudt.calling c.in-Xudt.payload c.as_slice-in-Xudt.result.now c.in-Xudt.params
    c.as_slice-in-Xudt-2.result.now c.address_length-front.result c.address_length-in-Xudt.result f
    (c.fits_extended.ensures e) c.address_length-front.ensures.enough c.address_length-in-Xudt.ensures.enough c.as_slice-in-Xudt.ensures
    c.as_slice-in-Xudt-2.ensures c.in-Xudt.is

pub returns-in-Ludt : goal.returns-in-Ludt
returns-in-Ludt c = λ e f.
    long_fits c.args.message.now c.args.called.now c.in-Ludt.calling c.in-Ludt.payload c.as_slice.result.now c.in-Ludt.params
    c.as_slice-in-Ludt.result.now c.address_length-front.result c.address_length.result f
    (c.fits_long.ensures e) c.address_length-front.ensures.enough c.address_length.ensures.enough c.as_slice.ensures
    c.as_slice-in-Ludt.ensures c.in-Ludt.is
