use Rattle.std.proofs.Common.{◌≡◌, ◌++◌, List, ap, ◌∙◌, append_assoc, Result, Ok, Err, OnOk, codes}
use Rattle.picture_kit.specs.declared.shape.Shape.{Shape}
use Rattle.picture_kit.specs.declared.ink.Ink.TheVariants as In
use Rattle.pictures.specs.PlayPicture.Legend.{mark_shapes, loose_shapes, bell_shapes, legend_shapes}
use Rattle.pictures.proofs.PlayPicture.DrawLemmas.{thrice}
use Rattle.pictures.proofs.play_picture.legend.add_legend.Goals as goal

pub returns : goal.returns
unfolding legend_shapes
returns c = thrice c.add_loose.result c.args.shapes.now c.add_bells.new.shapes c.add_mark.new.shapes c.add_loose.new.shapes bell_shapes (mark_shapes In.Refused 224 (codes "answered no")) (loose_shapes 352 (codes "end not shown"))
    c.in_ok-add_bells.ensures c.in_ok-add_mark.ensures c.add_loose.ensures
