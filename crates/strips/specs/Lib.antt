pub mod StripRecord
