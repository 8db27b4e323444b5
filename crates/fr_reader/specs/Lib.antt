pub mod UsualText
