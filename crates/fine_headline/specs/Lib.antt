pub mod FineState
