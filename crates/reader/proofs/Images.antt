-- What the type of an image says, as the rules of reading test it. Assumes nothing.
use Rattle.std.proofs.Common.{◌≡◌, false, ltb, length, le-ltb}
use Rattle.reader.specs.declared.Image.{Image}

-- its bytes are no fewer than a head
pub headed : (image : Image) → ltb (length image.bytes.now) 2072 ≡ false
headed image = le-ltb (length image.bytes.now) 2072 image.has_head
