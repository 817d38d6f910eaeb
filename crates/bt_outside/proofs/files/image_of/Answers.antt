use Rattle.bt_outside.proofs.ImageLists.{image_whole}
use Rattle.bt_outside.proofs.files.image_of.Goals as goal

pub returns : goal.returns
returns c = λ bounded n.
    image_whole c.args.choice c.args.base.now c.in_ok-rest.rest.items c.in_ok-image.image.items c.append.new.self.items c.args.files.now c.in_ok-append.ensures.items c.in_ok-image.ensures c.in_ok-rest.ensures bounded n
