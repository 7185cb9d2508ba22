-- What the code of `payloads` and `reads` alone needs; no reader of the definitions does.
pub mod Parts
