use Rattle.std.proofs.Common.{◌≡◌, ◌≤◌, sym, ap, ◌∙◌, arith}
use Rattle.i2c_virt.proofs.I2cClient.Paging.{status_size, due_few}
use Rattle.i2c_virt.proofs.i2c_client.asking.keep_reply.Goals as goal

pub slice_bounds-push-end : goal.slice_bounds-push-end
slice_bounds-push-end c =
    let size = status_size c.args.page.now c.requires.spelled in
    let few = due_few c.in-Some.status c.args.ask.now c.requires.good in
    let due = c.bytes_due-due.ensures in
    omega (arith, size, few, due)
