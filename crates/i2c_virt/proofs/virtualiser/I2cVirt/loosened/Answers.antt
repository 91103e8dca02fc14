use Rattle.std.proofs.Common.{◌∙◌, sym, arith}
use Rattle.i2c_virt.proofs.virtualiser.I2cVirt.loosened.Goals as goal

pub returns : goal.returns
returns c = λ k lt h.
    let to_off = c.with-3.ensures.clear k lt h in
    let from_off = c.with-2.ensures.clear k lt to_off in
    let output_off = c.with-driver.ensures.clear k lt from_off in
    let input_off = c.with.ensures.clear k lt output_off in
    record {
      clear = c.with-touched.ensures.clear k lt input_off;
      another = λ e. c.with-touched.ensures.set k lt input_off (e ∙ sym c.place_at.ensures);
      besides = λ m. record {
        input = λ e. c.with.ensures.set k lt output_off e;
        output = λ e. c.with-driver.ensures.set k lt from_off e;
        from = λ e. c.with-2.ensures.set k lt to_off e;
        to = λ e. c.with-3.ensures.set k lt h (let a = c.len-clients.ensures.len in omega (arith, a, e));
      };
    }
