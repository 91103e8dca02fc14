use Rattle.std.proofs.Common.{◌≡◌, ◌+◌, ◌%◌, length, ◌≤◌, ◌∷◌, [], length-append, ℕ, ◌<◌, sym, ap, ◌∙◌, subst, arith}
use Rattle.std.proofs.lemmas.List.{length-replicate}
use Rattle.cargo_core.specs.Pages.{Paged}
use Rattle.i2c_virt.specs.I2cClient.Hands.{AreBuffers, buffer_of}
use Rattle.i2c_virt.proofs.I2cClient.Lists.{buffers_push}
use Rattle.i2c_virt.proofs.i2c_client.hand.Hand.new.Goals as goal

small : (n m : ℕ) → n ≡ m → m < 2 → m ≡ buffer_of (0 + n)
small n m e lt = let f : m ≡ 0 + n = omega (arith, e) in rw (← f) (omega (arith, lt))

pub loop-number-preserved : goal.loop-number-preserved
loop-number-preserved c =
    let inv = c.loop-number.invariant in
    let e = c.in_ok-page.ensures in
    let many = inv.1 in
    let len = ap length c.push_back_reserved.ensures.items in (
      subst (AreBuffers c.args.pool 0) (sym c.push_back_reserved.ensures.items) (buffers_push c.args.pool 0 c.loop-number.pages.items c.in_ok-page.page
          (record { own = ap (λ (p : Paged). p.pool) e; number = ap (λ (p : Paged). p.no) e ∙ small (length c.loop-number.pages.items) c.loop-number.number many c.loop-number-test.true; size = ap (λ (p : Paged). length p.bytes) e ∙ length-replicate {A = ℕ} 64 0 }) inv.0),
      len ∙ (length-append c.loop-number.pages.items (c.in_ok-page.page ∷ []) ∙ ap (λ n. n + 1) many),
      subst (λ n. 2 ≤ n) (sym c.push_back_reserved.ensures.capacity) inv.2,
    )
