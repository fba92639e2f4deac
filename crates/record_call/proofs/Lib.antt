pub mod RecordLines
