-- What the contracts of pictures say: inks (Inks), the text of shapes (Svg), and quotes (Quotes).
pub mod Inks
pub mod Svg
pub mod Quotes
pub mod Shapes
pub mod XmlText
